-- What follows from clauses on one outcome.
use Rattle.std.proofs.Common.{Result, Ok, Err, IfOk, OnOk, OnErr}

pub if_ok_any : {A E P : Type 0} (r : Result A E) → P → IfOk r (λ a. P)
if_ok_any (Ok a) p = p
if_ok_any (Err e) p = tt

pub ok_then : {A E : Type 0} {P Q : A → Type 0} (r : Result A E) → IfOk r P → ((a : A) → P a → Q a) → IfOk r Q
ok_then (Ok a) p go = go a p
ok_then (Err e) p go = tt

pub ok_both : {A E P Q R : Type 0} (r : Result A E) → OnOk r P → OnOk r Q → (P → Q → R) → OnOk r R
ok_both (Ok a) p q go = go p q
ok_both (Err e) p q go = tt

pub err_then : {A E P Q : Type 0} (r : Result A E) → OnErr r P → (P → Q) → OnErr r Q
err_then (Ok a) p go = tt
err_then (Err e) p go = go p

pub on_err : {A E P : Type 0} (r : Result A E) → P → OnErr r P
on_err (Ok a) p = tt
on_err (Err e) p = p
