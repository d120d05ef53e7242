use Rattle.bgp_shapes.proofs.HeldLaw.{held_complete, held_sound}
use Rattle.bgp_shapes.proofs.laws.held_law.Goals as goal

pub returns-clause-complete : goal.returns-clause-complete
returns-clause-complete c tracked always compare_id all held short is =
    held_complete tracked always compare_id all held short is

pub returns-clause-sound : goal.returns-clause-sound
returns-clause-sound c tracked always compare_id all held short has is =
    held_sound tracked always compare_id all held short has is
