-- What prefix lists answer for a prefix (Cisco IOS, `ip prefix-list`).
use Rattle.std.specs.Prelude.{◌&&◌, nat_le, Bool, List}
use Rattle.mw_text.specs.declared.address.Prefix.{Prefix}
use Rattle.mw_text.specs.Address.{covers}
use Rattle.ios_ast.specs.declared.policies.PrefixEntry.{PrefixEntry}
use Rattle.ios_ast.specs.Deciding.{first_permits, in_order}

-- the prefix lies inside the entry's one, and its length is one of the entry's
abbrev pub prefix_taken : PrefixEntry → Prefix → Bool
prefix_taken e p =
    (nat_le e.prefix.len p.len && covers e.prefix p.addr) && (nat_le e.low p.len && nat_le p.len e.high)

-- the answer of the entries, in the order of their sequence numbers
abbrev pub prefix_permitted : List PrefixEntry → Prefix → Bool
prefix_permitted entries p =
    first_permits (λ e. prefix_taken e p) (λ e. e.permit) (in_order (λ e. e.seq) entries)
