use Rattle.std.proofs.Common.{rules, arith, sym, ◌∙◌, ap, length}
use Rattle.std.specs.Prelude.{slice_get}
use Rattle.mw_text.proofs.Lists.{each_place-push}
use Rattle.proto_rib.specs.Unfailed.{IsSlotAt}
use Rattle.proto_rib.proofs.Places.{slot_here, stable-from_places, stable-only}
use Rattle.proto_rib.proofs.tables.tables_of.Goals as goal

pub loop-place-preserved : goal.loop-place-preserved
loop-place-preserved c =
    let files = c.args.net.now.files in
    let before = c.loop-place.slots-inside.items.items in
    let items = c.in_ok-push.ensures.items in
    let here : IsSlotAt files c.args.d (length before) c.in_ok-slot.slot =
    slot_here files c.routers-routers.result.now c.args.d c.addresses.result.now c.loop-place.place
    (length before) c.index-routers-router.result
    c.prefix_of-p.result c.in_ok-slot.slot c.routers-routers.ensures.all c.addresses.ensures c.index-routers-router.is
    c.prefix_of-p.ensures
    c.in_ok-slot.ensures c.loop-place.invariant.0 in (
      search rules,
      λ k slot found. each_place-push
          (IsSlotAt files c.args.d) before c.in_ok-slot.slot c.loop-place.invariant.1 here k slot
          (sym (ap (λ xs. slice_get xs k) items) ∙ found),
    )

pub returns-clause-stable : goal.returns-clause-stable
returns-clause-stable c environment =
    stable-from_places c.args.net.now.files c.args.d c.loop-place.slots-inside.items.items environment c.requires.plain
    (omega (arith, c.loop-place.invariant.0, ap length c.routers-routers.ensures.all)) c.read_tables.ensures
    c.loop-place.invariant.1

pub returns-clause-only : goal.returns-clause-only
returns-clause-only c environment other =
    stable-only c.args.net.now.files c.args.d c.loop-place.slots-inside.items.items environment other c.requires.plain
    (omega (arith, c.loop-place.invariant.0, ap length c.routers-routers.ensures.all)) c.loop-place.invariant.1
