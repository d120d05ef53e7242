-- What a reading makes of what a question looks for at a router.
use Rattle.std.specs.Prelude.{Bool}
use Rattle.question_lang.specs.declared.walk.End.{End}
use Rattle.term_store.specs.Terms.{Reading, at}
use Rattle.sym_forwarding.specs.declared.aims.SymAim.{SymAim}
use Rattle.sym_forwarding.specs.Twins.{is_sought}

-- whether the question looks for the end
abbrev pub sought_by : Reading → SymAim → End → Bool
sought_by w aim end = is_sought aim.kind (at w aim.here) end
