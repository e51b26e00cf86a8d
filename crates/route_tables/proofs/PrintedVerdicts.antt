-- The pieces of the line of a route and its state, printed one after another: for `print_verdict`.
use Rattle.std.proofs.Common.{◌≡◌, ℕ, List, [], ◌∷◌, ◌++◌, OnOk, Option, Result, append_assoc, codes, subst}
use Rattle.std.specs.Io.KnownBytes.{Appends}
use Rattle.origin_validation.specs.declared.validity.Validity.{Validity}
use Rattle.prefix_trie_joint.specs.Texts.{ip_network_text}
use Rattle.route_tables.specs.Validations.{origin_text, state_text, verdict_line}
use Rattle.route_tables.specs.declared.announcements.Announcement.{Announcement}
use Rattle.route_tables.proofs.Printing.{appends_both, appends_then}

pub verdict_printed : {X E : Type 0} (route : Announcement) (validity : Validity) (a b c d : Option (List ℕ)) → Appends a b (ip_network_text route.prefix ++ (32 ∷ []))
    → Appends b c (origin_text route.origin ++ codes " ") → (r : Result X E) → OnOk r (Appends c d (state_text validity ++ codes "\n")) → OnOk r (Appends a d (verdict_line route validity))
verdict_printed route validity a b c d e f r h =
    let P : List ℕ → Type 0 = λ text. OnOk r (Appends a d text) in
    let first = ip_network_text route.prefix ++ (32 ∷ []) in
    let second = origin_text route.origin ++ codes " " in
    let third = state_text validity ++ codes "\n" in
    let same : (first ++ second) ++ third ≡ verdict_line route validity = simp append_assoc in
    subst P same (appends_then a c d (first ++ second) third (appends_both a b c first second e f) r h)
