use Rattle.std.proofs.Common.{◌≡◌, drop}
use Rattle.ios_ast.specs.Packets.{packet_permitted}
use Rattle.ios_ast.specs.Matching.{named_answer, access_named, header_of_prefix}
use Rattle.policy_eval.proofs.matches.access_permits.Given as goal

abbrev pub invariant-loop-list : goal.invariant-loop-list
invariant-loop-list l =
    named_answer (λ k. k.name) (λ k. packet_permitted k.entries (header_of_prefix l.p))
    (drop l.list-index l.list-items) l.named.name
    ≡ access_named l.policies l.p l.named
