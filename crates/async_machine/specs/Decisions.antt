-- What a router decides, and what of it is to be sent.
use Rattle.std.specs.Prelude.{ℕ, List, not, nat_lt, Option, None, option_and_then, option_map, slice_get}
use Rattle.std.specs.Prelude.{if◌then◌else◌}
use Rattle.mw_text.specs.declared.address.Addr.{Addr}
use Rattle.mw_text.specs.declared.address.Prefix.{Prefix}
use Rattle.mw_text.specs.Address.{prefix_at}
use Rattle.ios_ast.specs.declared.file.File.{File}
use Rattle.route_record.specs.declared.Slot.{Slot}
use Rattle.route_record.specs.declared.TheConstants.{LENGTHS}
use Rattle.route_record.specs.Places.{slot_at}
use Rattle.same_routes.specs.Slots.{same_bgp, same_ospf}
use Rattle.machine_laws.specs.declared.state.State.{State}
use Rattle.machine_laws.specs.Deciding.{decided}
use Rattle.async_machine.specs.declared.deciding.Decision.{Decision}

-- the slot that the router decides, and whether its routes differ from those of its slot
abbrev pub decision : List File → State → ℕ → File → Prefix → Slot → Decision
decision files s router file p slot = record {
  slot = decided files s router file p slot;
  bgp = not (same_bgp slot.bgp (decided files s router file p slot).bgp);
  ospf = not (same_ospf slot.ospf (decided files s router file p slot).ospf);
}

-- that of a router for a length: none where there is no such router or length
abbrev pub decision_at : List File → Addr → State → ℕ → ℕ → Option Decision
decision_at files d s router len =
    if nat_lt len LENGTHS
    then option_and_then (λ file. option_map (λ slot. decision files s router file (prefix_at d len) slot)
    (slot_at s.tables router len)) (slice_get files router)
    else None
