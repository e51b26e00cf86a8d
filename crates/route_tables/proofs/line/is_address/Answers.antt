-- A text without a dot and a colon is no address.
use Rattle.std.proofs.Common.{◌≡◌, ◌∙◌, false, true≢false, sym}
use Rattle.route_tables.proofs.AddressTexts.{address_has_separator}
use Rattle.route_tables.proofs.line.is_address.Goals as goal

pub returns-else-has_separator : goal.returns-else-has_separator
returns-else-has_separator c =
    let none : c.has_separator.result ≡ false = c.if-has_separator.false in (
      λ is. absurd (true≢false (sym is ∙ none)),
      λ found. absurd (true≢false (sym (address_has_separator c.args.text.now found.0 found.1) ∙ sym c.has_separator.ensures ∙ none)),
    )
