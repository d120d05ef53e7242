-- `==` on nodes is equality of values.
use Rattle.std.proofs.Common.{rules, ◌≡◌, true}
use Rattle.term_store.specs.declared.Node.{Node}
use Rattle.term_store.specs.contracts.NodePartialEq.TheImpl.{eq-value}

pub same : (x y : Node) → eq-value.it x y ≡ true → x ≡ y
same x y h = search rules

pub itself : (x : Node) → eq-value.it x x ≡ true
itself x = search rules
