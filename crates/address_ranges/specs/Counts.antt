-- Numbers of addresses. This project's own.
use Rattle.std.specs.Prelude.{ℕ, zero, suc, ◌+◌, ◌^◌, Bool}
use Rattle.std.specs.Int.{from_bool}
use Rattle.address_ranges.specs.declared.count.AddressCount.{AddressCount}
use Rattle.address_ranges.specs.declared.count.AddressCount.TheVariants.{Number, AllIpv6}

-- how many numbers below a bound pass a test
unfoldable pub count_below : (ℕ → Bool) → ℕ → ℕ
count_below test zero = 0
count_below test (suc n) = count_below test n + from_bool (test n)

-- a count as a number
abbrev pub count_of : AddressCount → ℕ
count_of (Number n) = n
count_of AllIpv6 = 2 ^ 128
