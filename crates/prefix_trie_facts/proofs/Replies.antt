-- A worked row holds if the plain model gives its replies: for the worked rows.
use Rattle.prefix_trie_facts.proofs.Prelude.{◌≡◌, ℕ, Bool, List, [], ◌∷◌, map, Option, Some, None, refl, ap, subst, State, Call, Reply, Refused, Refusal, Run, path_at, back_at, new_map, Row, calls, replies, Gives, LeadsTo}
use Rattle.prefix_trie_facts.proofs.Plain.{from_new, Shows, Marks, root_mark, calls_of, play_all}

-- the cause of a refusal, `None` for another reply
abbrev fate_of : Reply (ℕ × ℕ) ℕ → Option Refusal
fate_of (Refused cause) = Some cause
fate_of reply = None

-- the calls of a row, each with the cause of its refusal
abbrev pub fated : Row → List (Call (ℕ × ℕ) ℕ × Option Refusal)
fated row = map (λ c. (c.0, fate_of c.1)) row

calls-fated : (width : ℕ) (row : Row) → calls_of (path_at width) (back_at width) width (fated row) ≡ calls row
calls-fated width [] = refl
calls-fated width (c ∷ row) = ap (λ cs. c.0 ∷ cs) (calls-fated width row)

-- the plain model's replies to a row's calls
abbrev pub answers : ℕ → Row → List (Reply (ℕ × ℕ) ℕ)
answers width row = (play_all (path_at width) (back_at width) width [] root_mark (fated row)).0

-- the entries and the nodes that the plain model ends with
abbrev pub last_entries : ℕ → Row → List (List Bool × ℕ)
last_entries width row = (play_all (path_at width) (back_at width) width [] root_mark (fated row)).1

abbrev pub last_marks : ℕ → Row → Marks
last_marks width row = (play_all (path_at width) (back_at width) width [] root_mark (fated row)).2

pub gives : {width : ℕ} {row : Row} → answers width row ≡ replies row → Gives width row
gives {width} {row} e =
    let ran = from_new (path_at width) (back_at width) width (fated row) in
    record {
      last = ran.0;
      run = subst (λ cs. Run (path_at width) (back_at width) width new_map cs (replies row) ran.0) (calls-fated width row)
          (subst (λ rs. Run (path_at width) (back_at width) width new_map (calls_of (path_at width) (back_at width) width (fated row)) rs ran.0) e ran.1);
    }

pub leads : {width : ℕ} {row : Row} {Holds : State ℕ → Type 0} → answers width row ≡ replies row
    → ((t : State ℕ) → Shows t (last_entries width row) (last_marks width row) → Holds t) → LeadsTo width row Holds
unfolding gives
leads {width} {row} e holds =
    let ran = from_new (path_at width) (back_at width) width (fated row) in record { gives = gives e; holds = holds ran.0 ran.2 }
