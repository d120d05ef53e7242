use Rattle.std.proofs.Common.{◌∙◌}
use Rattle.proto_bgp.specs.Places.{candidate_at}
use Rattle.proto_bgp.proofs.StepLaws.{any_found}
use Rattle.proto_bgp.proofs.decision.some_external.Goals as goal

pub returns : goal.returns
returns c = c.has_external.ensures ∙ any_found (candidate_at c.args.candidates.now) (λ x. x.external) c.args.left.now
