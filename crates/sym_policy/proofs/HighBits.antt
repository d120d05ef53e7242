-- Prefixes of an address, and the high bits of a number.
use Rattle.std.proofs.Common.{◌≡◌, ℕ, ◌+◌, ◌-◌, ◌*◌, ◌/◌, ◌^◌, ◌==◌, ◌≤◌, nat_le, true, sym, ap, ◌∙◌, arith}
use Rattle.std.proofs.Math.Nat.{div-div-eq-div-mul, mul-div_cancel}
use Rattle.std.proofs.lemmas.Nat.{pow-add, pow_pos}
use Rattle.std.proofs.lemmas.Bool.{le-leb}
use Rattle.std.proofs.Math.Bool.{and-true}
use Rattle.ios_ast.specs.declared.policies.PrefixEntry.{PrefixEntry}
use Rattle.ios_ast.specs.Prefixes.{prefix_taken}
use Rattle.mw_text.specs.declared.address.Addr.{Addr}
use Rattle.mw_text.specs.declared.address.Prefix.{Prefix}
use Rattle.mw_text.specs.Address.{block, covers, prefix_at}
use Rattle.term_arith.proofs.NumberLemmas.{number_high, ids_end_drop}

pub ruleset prefix_steps = (number_high, ids_end_drop)

-- a prefix of an address is covered where the address is, unless the covering prefix is the longer one
pub covers_prefix : (p : Prefix) (d : Addr) (len : ℕ) → p.len ≤ len → len ≤ 32
    → covers p (prefix_at d len).addr ≡ covers p d
covers_prefix p d len inside small =
    let low = 32 - len in
    let more = len - p.len in
    let whole : block p.len ≡ 2 ^ low * 2 ^ more =
    ap (λ n. 2 ^ n) (let e : 32 - p.len ≡ low + more = omega arith in e) ∙ pow-add 2 low more in
    let cut = d.0 / 2 ^ low * 2 ^ low in
    let same : cut / block p.len ≡ d.0 / block p.len =
    ap (λ b. cut / b) whole ∙ sym (div-div-eq-div-mul cut (2 ^ low) (2 ^ more))
    ∙ ap (λ q. q / 2 ^ more) (mul-div_cancel (d.0 / 2 ^ low) (pow_pos low))
    ∙ div-div-eq-div-mul d.0 (2 ^ low) (2 ^ more) ∙ ap (λ b. d.0 / b) (sym whole) in
    ap (λ q. q == p.addr.0 / block p.len) same

-- what an entry says of the prefix of an address where the lengths fit
pub taken_prefix : (e : PrefixEntry) (d : Addr) (len : ℕ) → e.prefix.len ≤ len → e.low ≤ len → len ≤ e.high → len ≤ 32
    → prefix_taken e (prefix_at d len) ≡ covers e.prefix d
taken_prefix e d len inside low high small =
    let inside' : nat_le e.prefix.len len ≡ true = le-leb e.prefix.len len inside in
    let low' : nat_le e.low len ≡ true = le-leb e.low len low in
    let high' : nat_le len e.high ≡ true = le-leb len e.high high in
    rw (inside', low', high') (and-true (covers e.prefix (prefix_at d len).addr)
    ∙ covers_prefix e.prefix d len inside small)
