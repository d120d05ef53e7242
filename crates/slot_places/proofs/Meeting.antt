-- A prefix of some destination of a set shares an address with the set.
use Rattle.std.proofs.Common.{◌≡◌, ℕ, ◌-◌, ◌*◌, ◌/◌, ◌<◌, ◌≤◌, Bool, true, false, ◌||◌, inl, inr, refl}
use Rattle.std.proofs.Common.{sym, ap, subst, arith, ◌∙◌, min}
use Rattle.std.specs.Prelude.{◌⊎◌}
use Rattle.std.proofs.lemmas.Bool.{and_from, and_parts, cases_lt, eqb-true, eq-eqb}
use Rattle.std.proofs.Math.Nat.{mul-div_cancel}
use Rattle.std.proofs.lemmas.Nat.{pow_pos}
use Rattle.mw_text.specs.declared.address.Addr.{Addr}
use Rattle.mw_text.specs.declared.address.Prefix.{Prefix}
use Rattle.mw_text.specs.Address.{block, covers, prefix_at, same_prefix}
use Rattle.mw_text.proofs.Numbers.{coarser}
use Rattle.net_interfaces.specs.Connected.{overlap}
use Rattle.slot_places.specs.Origins.{meets}

-- the shorter of two prefixes covers the other's address
covering : (p q : Prefix) → (q.len < p.len) ⊎ (p.len ≤ q.len) →
    p.addr.0 / block (min p.len q.len) ≡ q.addr.0 / block (min p.len q.len) → overlap p q ≡ true
covering p q (inl less) same =
    let short : min p.len q.len ≡ q.len = omega (arith, less) in
    or_second (covers p q.addr) (covers q p.addr)
    (eq-eqb (p.addr.0 / block q.len) (q.addr.0 / block q.len)
    (subst (λ k. p.addr.0 / block k ≡ q.addr.0 / block k) short same))
  where
    or_second : (a b : Bool) → b ≡ true → (a || b) ≡ true
    or_second true b is = refl
    or_second false b is = is
covering p q (inr more) same =
    let short : min p.len q.len ≡ p.len = omega (arith, more) in
    let first : covers p q.addr ≡ true = eq-eqb (q.addr.0 / block p.len) (p.addr.0 / block p.len)
    (sym (subst (λ k. p.addr.0 / block k ≡ q.addr.0 / block k) short same)) in
    rw first refl

shares : (q destinations : Prefix) (d : Addr) (len : ℕ) → same_prefix q (prefix_at d len) ≡ true →
    covers destinations d ≡ true → overlap q destinations ≡ true
shares q destinations d len same covered =
    let both = and_parts _ _ same in
    let addr : q.addr.0 ≡ d.0 / block len * block len = eqb-true _ _ both.0 in
    let long : q.len ≡ len = eqb-true _ _ both.1 in
    let first : q.addr.0 / block len ≡ d.0 / block len =
    ap (λ n. n / block len) addr ∙ mul-div_cancel (d.0 / block len) (pow_pos (32 - len)) in
    let near : q.addr.0 / block (min q.len destinations.len) ≡ d.0 / block (min q.len destinations.len) =
    coarser q.addr.0 d.0 len (min q.len destinations.len) (omega (arith, long)) first in
    let far : d.0 / block (min q.len destinations.len) ≡ destinations.addr.0 / block (min q.len destinations.len) =
    coarser d.0 destinations.addr.0 destinations.len (min q.len destinations.len) (omega arith)
    (eqb-true _ _ covered) in
    covering q destinations (cases_lt destinations.len q.len) (near ∙ far)

pub meets-there : (q destinations : Prefix) (d : Addr) (len : ℕ) → same_prefix q (prefix_at d len) ≡ true →
    covers destinations d ≡ true → meets destinations len q ≡ true
meets-there q destinations d len same covered =
    and_from _ _ (and_parts _ _ same).1 (shares q destinations d len same covered)
