use Rattle.std.proofs.Common.{◌≡◌, drop}
use Rattle.ios_ast.specs.Deciding.{first_permits}
use Rattle.ios_ast.specs.Packets.{packet_taken, packet_permitted}
use Rattle.policy_eval.specs.Header.{header_of}
use Rattle.policy_eval.proofs.packets.access_list.Given as goal

abbrev pub invariant-loop-entry : goal.invariant-loop-entry
invariant-loop-entry l =
    first_permits (λ e. packet_taken e (header_of l.packet)) (λ e. e.permit) (drop l.entry-index l.entry-items)
    ≡ packet_permitted l.list.entries (header_of l.packet)
