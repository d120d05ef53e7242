use Rattle.std.proofs.Common.{◌≡◌, List, Some, length, map, refl, sym, ap, subst, arith, ◌∙◌}
use Rattle.std.specs.Prelude.{option_map, slice_get}
use Rattle.std.specs.Option.{option_copied}
use Rattle.std.proofs.lemmas.Option.{slice_get-map, slice_get_read}
use Rattle.plan_places.specs.declared.places.Place.{Place}
use Rattle.routing_worlds.specs.Worlds.{open_with}
use Rattle.sym_policy.specs.Held.{failures_of}
use Rattle.sym_policy.specs.Records.{address_of}
use Rattle.world_variables.specs.declared.opens.SymOpen.{SymOpen}
use Rattle.world_variables.specs.Symbols.{open_of}
use Rattle.routing_encoder.specs.Wanted.{TellsWanted}
use Rattle.routing_encoder.proofs.LoopSteps.{place_short}
use Rattle.routing_encoder.proofs.WantedSteps.{place_is, room_is, wanted_is}
use Rattle.routing_encoder.proofs.wanted.sym_wanted.Goals as goal

pub returns-clause-value : goal.returns-clause-value
returns-clause-value c = λ w reads from real p o read shapes has there here.
    let world = c.args.world.now in
    let files = world.net.now.files in
    let tracked = world.net.now.tracked in
    let question = world.question.now in
    let plan = world.plan.now in
    let made = world.made.now.routing in
    let tables = world.tables.now in
    let number = c.args.number in
    let failures = failures_of w made.net in
    let d = address_of w made.packet.dst in
    let place = place_is made.frame.places c.as_slice-places.result.now number c.place_at-p.result p
    c.as_slice-places.ensures c.place_at-p.ensures there in
    let parts = c.as_slice-parts.result.now in
    let part = c.index-parts-number.result in
    let u = open_of w part in
    let long = ap length c.as_slice-parts.ensures in
    let many = c.requires.stands.parts_long in
    let below = c.requires.below in
    let short = place_short made.frame.places number c.place_at-p.result c.requires.stands.frame.short
    (ap (λ (ps : List Place). slice_get ps number) (sym c.as_slice-places.ensures) ∙ c.place_at-p.ensures) in
    let open_there : slice_get (map (open_of w) made.parts) number ≡ Some u =
    slice_get-map (open_of w) made.parts number
    ∙ ap (λ (xs : List SymOpen). option_map (open_of w) (slice_get xs number)) (sym c.as_slice-parts.ensures)
    ∙ ap (option_map (open_of w)) (slice_get_read parts (length parts) number part refl
    (omega (arith, long, many, below)) c.index-parts-number.is) in
    wanted_is w files tracked question plan from c.args.terms.now made tables world.made.now.slots number real
    c.in_ok-holds-2.holds u c.place_at-p.result p o c.requires.stands read shapes has c.requires.long c.requires.lens
    c.requires.routers c.requires.slots place there open_there here (sym c.is_used.ensures ∙ c.if-not-is_used.false)
    (subst (λ room. TellsWanted w tracked files failures d tables c.place_at-p.result
    (open_with files failures d room c.place_at-p.result u o.bgp) c.in_ok-holds-2.holds)
    (room_is files c.routers.result.now tracked plan made.frame question.packets.dst c.as_slice-rooms.result.now
    c.place_at-p.result (option_copied c.room_for-room.result) c.requires.stands.frame c.requires.stands.destinations
    c.routers.ensures.all c.as_slice-rooms.ensures short c.room_for-room.ensures)
    (c.in_ok-holds-2.ensures.value w reads o.bgp))
