-- Masks as words: the length of a mask, and a prefix by its address and mask.
use Rattle.std.specs.Prelude.{ℕ, zero, suc, ◌==◌, List, nat_le, Option, Some, None, option_and_then, if◌then◌else◌}
use Rattle.mw_text.specs.declared.address.Addr.{Addr}
use Rattle.mw_text.specs.declared.address.Prefix.{Prefix}
use Rattle.mw_text.specs.Address.{mask_of, prefix_at}
use Rattle.mw_text.specs.Digits.{addr_of}

-- the greatest length below the bound whose mask is that number
unfoldable pub length_below : Addr → ℕ → Option ℕ
length_below mask zero = None
length_below mask (suc len) = if mask_of len == mask.0 then Some len else length_below mask len

-- the length of a mask whose 1 bits stand first
abbrev pub mask_length : List ℕ → Option ℕ
mask_length word = option_and_then (λ mask. length_below mask 33) (addr_of word)

-- and at least the least length
abbrev pub mask_from : ℕ → List ℕ → Option ℕ
mask_from least word = option_and_then (λ len. if nat_le least len then Some len else None) (mask_length word)

-- the prefix of that length of an address that has no bits past it
abbrev pub prefix_under : Addr → ℕ → Option Prefix
prefix_under a len = if (prefix_at a len).addr.0 == a.0 then Some (prefix_at a len) else None
