-- The texts of networks and of numbers: what `Display` and `Debug` write, and what `parse` reads.
-- IPv6 text is that of RFC 5952, and the grammar of addresses is that of std. The rest is this project's own.
use Rattle.std.specs.Prelude.{◌≡◌, ◌≢◌, ℕ, ◌/◌, ◌%◌, ◌^◌, ◌<◌, ◌≤◌, ◌==◌, List, [], ◌∷◌, ◌++◌, flat_map, codes, decimal, Contains, Result, IfErr, MatchResult}
use Rattle.std.specs.Char.{digit_char}
use Rattle.std.specs.List.{before_first, after_first}
use Rattle.std.specs.Int.{w32, w128, to_be_bytes}
use Rattle.std.specs.Net.Addr.{ipv4_bits, ipv6_bits, segments_of}
use Rattle.std.specs.Net.Text.{ipv4_text, ipv6_text}
use Rattle.std.specs.Net.Grammar.{IsIpv4Text, IsIpv6Text, Parses}
use Rattle.prefix_trie_bits.specs.declared.prefix.narrow.text.ParseNarrowError.{ParseNarrowError}
use Rattle.prefix_trie_bits.specs.declared.prefix.networks.text.ParseNetworkError.{ParseNetworkError}
use Rattle.prefix_trie_bits.specs.declared.prefix.networks.text.ParseNetworkError.TheVariants.{MissingSlash, Address, Length}

-- an IPv4 network: its address as std writes it, a slash and the length, as in `10.1.2.3/8`
abbrev pub ipv4_network_text : ℕ × ℕ → List ℕ
ipv4_network_text network = ipv4_text (to_be_bytes w32 network.0) ++ codes "/" ++ decimal network.1

-- an IPv6 network: its address by RFC 5952, a slash and the length, as in `2001:db8::/32`
abbrev pub ipv6_network_text : ℕ × ℕ → List ℕ
ipv6_network_text network = ipv6_text (segments_of (to_be_bytes w128 network.0)) ++ codes "/" ++ decimal network.1

-- the four hexadecimal digits of a segment, in lower case
abbrev pub four_digits : ℕ → List ℕ
four_digits n = digit_char (n / 0x1000) ∷ digit_char (n / 0x100 % 16) ∷ digit_char (n / 0x10 % 16) ∷ digit_char (n % 16) ∷ []

-- segments of four digits each, with colons between them
abbrev pub full_groups : List ℕ → List ℕ
full_groups [] = []
full_groups (segment ∷ rest) = four_digits segment ++ flat_map (λ later. codes ":" ++ four_digits later) rest

-- all eight segments in full, a slash and the length, as in `2001:0db8:0000:0000:0000:0000:0000:0000/32`
abbrev pub ipv6_full_text : ℕ × ℕ → List ℕ
ipv6_full_text network = full_groups (segments_of (to_be_bytes w128 network.0)) ++ codes "/" ++ decimal network.1

-- the byte of `/`
abbrev pub slash : ℕ
slash = 47

-- `Spells` relates a text to an address, `bits` is the number of an address, and `width` is its
-- number of bits
module _ {A : Type 0} (Spells : List ℕ → A → Type 0) (bits : A → ℕ) (width : ℕ) (text : List ℕ) where
  -- the text is an address, a slash, and a length up to the width in plain decimal, which has no sign and no leading zero
  pub record IsNetworkText (network : ℕ × ℕ) : Type 0 where
    pub front : List ℕ
    pub address : A
    pub spelled : text ≡ front ++ codes "/" ++ decimal network.1
    pub spells : Spells front address
    pub value : network.0 ≡ bits address
    pub fits : network.1 ≤ width

  -- the text before and after the first slash
  abbrev pub before_slash : List ℕ
  before_slash = before_first (λ c. c == slash) text

  abbrev pub after_slash : List ℕ
  after_slash = after_first (λ c. c == slash) text

  -- why a text denotes no network
  abbrev pub IsReason : ParseNetworkError → Type 0
  IsReason MissingSlash = ¬ (Contains text slash)
  IsReason Address = Contains text slash × ((a : A) → ¬ (Spells before_slash a))
  IsReason Length = Contains text slash × ((a : A) × Spells before_slash a) × ((n : ℕ) → n ≤ width → after_slash ≢ decimal n)

  -- the result of `parse`: the network of the text, or why it denotes none
  pub record ParsesNetwork (r : Result (ℕ × ℕ) ParseNetworkError) : Type 0 where
    pub network : Parses (λ _ found. IsNetworkText found) text r
    pub reason : IfErr r IsReason

  -- the result of `parse_host`: that of `parse` if the text has a slash, else the network of the one address that the text is
  pub record ParsesHost (r : Result (ℕ × ℕ) ParseNetworkError) : Type 0 where
    pub with_slash : Contains text slash → ParsesNetwork r
    pub without_slash : ¬ (Contains text slash) → MatchResult r (λ found. (a : A) × Spells text a × (found ≡ (bits a, width))) (λ error. (error ≡ Address) × ((a : A) → ¬ (Spells text a)))

-- the text denotes this network
abbrev pub IsIpv4NetworkText : List ℕ → ℕ × ℕ → Type 0
IsIpv4NetworkText = IsNetworkText IsIpv4Text ipv4_bits 32

abbrev pub IsIpv6NetworkText : List ℕ → ℕ × ℕ → Type 0
IsIpv6NetworkText = IsNetworkText IsIpv6Text ipv6_bits 128

-- the result of `parse` for the text
abbrev pub ParsesIpv4Network : List ℕ → Result (ℕ × ℕ) ParseNetworkError → Type 0
ParsesIpv4Network = ParsesNetwork IsIpv4Text ipv4_bits 32

abbrev pub ParsesIpv6Network : List ℕ → Result (ℕ × ℕ) ParseNetworkError → Type 0
ParsesIpv6Network = ParsesNetwork IsIpv6Text ipv6_bits 128

-- the result of `parse_host` for the text
abbrev pub ParsesIpv4Host : List ℕ → Result (ℕ × ℕ) ParseNetworkError → Type 0
ParsesIpv4Host = ParsesHost IsIpv4Text ipv4_bits 32

abbrev pub ParsesIpv6Host : List ℕ → Result (ℕ × ℕ) ParseNetworkError → Type 0
ParsesIpv6Host = ParsesHost IsIpv6Text ipv6_bits 128

-- the text of an error
abbrev pub parse_network_error_text : ParseNetworkError → List ℕ
parse_network_error_text MissingSlash = codes "missing slash between address and length"
parse_network_error_text Address = codes "invalid address before the slash"
parse_network_error_text Length = codes "invalid length after the slash"

-- the text is a number of `width` bits in plain decimal
abbrev pub IsNarrowText : ℕ → List ℕ → ℕ → Type 0
IsNarrowText width text n = (n < 2 ^ width) × (text ≡ decimal n)

-- the result of `parse`: the number of the text, or an error if it denotes none
abbrev pub ParsesNarrow : ℕ → List ℕ → Result ℕ ParseNarrowError → Type 0
ParsesNarrow width = Parses (IsNarrowText width)

-- the text of its error
abbrev pub parse_narrow_error_text : List ℕ
parse_narrow_error_text = codes "not a plain decimal number within the width"
