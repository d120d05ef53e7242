-- Addresses in an order in which each comes after the one before: no two of them clash.
use Rattle.std.specs.Prelude.{◌≡◌, ℕ, ◌+◌, ◌&&◌, ◌||◌, Bool, not, nat_lt, nat_le, IsTrue, List, [], Some, slice_get}
use Rattle.std.specs.Prelude.{take}
use Rattle.mw_text.specs.declared.address.Prefix.{Prefix}
use Rattle.mw_text.specs.Address.{block, same_prefix}
use Rattle.ios_ast.specs.declared.file.File.{File}
use Rattle.net_interfaces.specs.declared.interfaces.Addressed.{Addressed}
use Rattle.net_refusals.specs.declared.refusals.NetCause.{NetCause}
use Rattle.net_refusals.specs.Refusals.{broken_line}

-- the number after the last address of a prefix
abbrev pub end_of : Prefix → ℕ
end_of p = p.addr.0 + block p.len

-- y has the greater address, and its subnet begins after that of x ends, or is the same and neither is a loopback's
abbrev pub follows : Addressed → Addressed → Bool
follows x y =
    nat_lt x.addr.0 y.addr.0 && (nat_le (end_of x.subnet) y.subnet.addr.0
    || (same_prefix x.subnet y.subnet && not (x.loopback || y.loopback)))

abbrev pub Follows : Addressed → Addressed → Type 0
Follows x y = IsTrue (follows x y)

-- no line of a file breaks the rule by what stands in an earlier file
abbrev pub KeptAbroad : NetCause → List File → Type 0
KeptAbroad cause files =
    (at : ℕ) (file : File) → slice_get files at ≡ Some file →
    broken_line cause files (take at files) file ≡ broken_line cause files [] file
