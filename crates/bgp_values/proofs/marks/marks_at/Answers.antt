use Rattle.std.proofs.Common.{◌≡◌, ◌∙◌, ◌+◌, ◌-◌, ◌*◌, ap, arith, drop, false, get_or, if◌then◌else◌, length, subst}
use Rattle.std.proofs.Common.{sym}
use Rattle.std.specs.Prelude.{◌&&◌, ◌<◌, ◌^◌}
use Rattle.route_record.specs.Shape.{marked_number}
use Rattle.term_store.specs.Terms.{truth}
use Rattle.bgp_variables.specs.Marks.{mark_width, marks_from}
use Rattle.bgp_values.proofs.MarkSteps.{marks_before, marks_end, room_for_more, small_more, width_before, width_end}
use Rattle.bgp_values.proofs.MarkSteps.{width_part}
use Rattle.bgp_values.proofs.marks.marks_at.Goals as goal

pub loop-i-init : goal.loop-i-init
loop-i-init c =
    let mays = c.args.mays.now in
    let size = c.marks_size.ensures.value in
    let none = width_end mays (length mays) (omega arith) in
    let zero : length mays - length mays ≡ 0 = omega arith in (
      omega (arith, size, none),
      marks_end mays (length mays) (truth c.args.values.now) (c.args.from + c.marks_size.result) (omega arith),
      subst (λ k. 0 < 2 ^ k) (sym zero) (omega arith),
    )

pub overflow_sub-end : goal.overflow_sub-end
overflow_sub-end c =
    let mays = c.args.mays.now in
    let before = width_before mays c.loop-i.i (omega arith) (omega arith) in
    let part = width_part mays (c.loop-i.i - 1) in
    omega (arith, before, part, c.loop-i.invariant.0, c.mark_size-end.ensures)

pub mark_at-requires : goal.mark_at-requires
mark_at-requires c =
    let mays = c.args.mays.now in
    let before = width_before mays c.loop-i.i (omega arith) (omega arith) in
    let part = width_part mays (c.loop-i.i - 1) in
    omega (arith, before, part, c.loop-i.invariant.0, c.mark_size-end.ensures, c.requires.within)

pub with_mark-set-requires : goal.with_mark-set-requires
with_mark-set-requires c =
    room_for_more c.loop-i.set c.loop-i.i (length c.args.mays.now) (omega arith) (omega arith) c.requires.few
    c.loop-i.invariant.2

pub loop-i-preserved : goal.loop-i-preserved
loop-i-preserved c =
    let mays = c.args.mays.now in
    let v = truth c.args.values.now in
    let i = c.loop-i.i in
    let may = get_or mays (i - 1) false in
    let at = c.loop-i.end - c.mark_size-end.result in
    let before = width_before mays i (omega arith) (omega arith) in
    let part = width_part mays (i - 1) in
    let end : at + mark_width may ≡ c.loop-i.end =
    omega (arith, before, part, c.loop-i.invariant.0, c.mark_size-end.ensures) in
    let said = marks_before mays i v at (omega arith) (omega arith) in
    let small = small_more c.loop-i.set i (length mays) (may && v at) (omega arith) (omega arith) c.loop-i.invariant.2 in
    let made : c.with_mark-set.result ≡ (if may && v at then 1 else 0) + 2 * c.loop-i.set =
    c.with_mark-set.ensures ∙ ap (λ b. (if b then 1 else 0) + 2 * c.loop-i.set) c.mark_at.ensures in (
      omega (arith, before, part, c.loop-i.invariant.0, c.mark_size-end.ensures),
      made ∙ ap (λ n. (if may && v at then 1 else 0) + 2 * n)
          (c.loop-i.invariant.1 ∙ ap (λ k. marked_number (marks_from (drop i mays) v k)) (sym end)) ∙ sym said,
      subst (λ n. n < 2 ^ (length mays - (i - 1))) (sym made) small,
    )
