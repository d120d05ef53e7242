-- Addresses and prefixes of IPv4 (RFC 791; RFC 4632, section 3.1), as numbers below 2 ^ 32 and lengths.
use Rattle.std.specs.Prelude.{ℕ, ◌-◌, ◌*◌, ◌/◌, ◌^◌, ◌==◌, ◌&&◌, Bool}
use Rattle.mw_text.specs.declared.address.Addr.{Addr}
use Rattle.mw_text.specs.declared.address.Prefix.{Prefix}

-- how many addresses share their first len bits
abbrev pub block : ℕ → ℕ
block len = 2 ^ (32 - len)

-- the mask whose first len bits are 1
abbrev pub mask_of : ℕ → ℕ
mask_of len = 2 ^ 32 - block len

-- the prefix of that length of an address: the bits past the length are cleared
abbrev pub prefix_at : Addr → ℕ → Prefix
prefix_at d len = record { addr = record { 0 = d.0 / block len * block len }; len = len }

-- the first bits of the address, as many as the prefix is long, are those of the prefix
abbrev pub covers : Prefix → Addr → Bool
covers p d = d.0 / block p.len == p.addr.0 / block p.len

-- the same address and the same length
abbrev pub same_prefix : Prefix → Prefix → Bool
same_prefix p q = (p.addr.0 == q.addr.0) && (p.len == q.len)
