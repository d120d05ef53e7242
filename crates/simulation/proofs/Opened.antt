-- The lines that open an events file keep how many identifiers there are.
use Rattle.std.proofs.Common.{◌≡◌, ◌∙◌, ℕ, Bool, true, false, cond, List, [], ◌∷◌, length, take, Option}
use Rattle.std.proofs.Common.{Some, None, Result, Ok, Err, is_some, ap, sym, refl}
use Rattle.std.specs.Option.{option_map_or}
use Rattle.std.proofs.lemmas.List.{length-map, length-set}
use Rattle.mw_text.specs.declared.address.Addr.{Addr}
use Rattle.mw_text.specs.declared.words.Line.{Line}
use Rattle.mw_text.specs.Reading.{following, in_turn}
use Rattle.mw_text.specs.Words.{is_skipped}
use Rattle.ios_ast.specs.declared.file.File.{File}
use Rattle.ios_ast.specs.Deciding.{carries}
use Rattle.net_parts.specs.Decisions.{external_count}
use Rattle.net_parts.specs.Sessions.{ends_of, external_ends}
use Rattle.ios_policy_reader.specs.declared.cause.Cause.TheVariants.{OutOfPlace, Repeated}
use Rattle.event_lines.specs.declared.orders.Order.{Order}
use Rattle.event_lines.specs.declared.orders.Order.TheVariants.{Destination, Identify, Take, Run}
use Rattle.simulation.specs.declared.causes.SimulationCause.{SimulationCause}
use Rattle.simulation.specs.declared.causes.SimulationCause.TheVariants as causes
use Rattle.simulation.specs.declared.causes.SimulationRefused.{SimulationRefused}
use Rattle.simulation.specs.declared.opening.Opening.{Opening}
use Rattle.simulation.specs.declared.opening.Start.{Start}
use Rattle.simulation.specs.Lines.{ordered, refused_at}
use Rattle.simulation.specs.Opening.{default_id, identified, next_opened, no_start, opened_by, start_by}
use Rattle.simulation.specs.Opening.{unopened, with_id}

-- as many identifiers
abbrev KeepsCount : Opening → Opening → Type 0
KeepsCount said next = length next.ids ≡ length said.ids

by_same : (said made next : Opening) → KeepsCount said made → made ≡ next → KeepsCount said next
by_same said made next keeps same = ap (λ o. length o.ids) (sym same) ∙ keeps

identified_keeps : (files : List File) (said next : Opening) (peer : Option ℕ) (id : Addr) →
    identified files said peer id ≡ Ok next → KeepsCount said next
identified_keeps files said next None id e = cc
identified_keeps files said next (Some end) id e = by (carries said.named end) e where
  by : (b : Bool) → cond b (Err (causes.Line Repeated)) (Ok (with_id files end id said)) ≡ Ok next →
      KeepsCount said next
  by true k = cc
  by false k =
      let same : with_id files end id said ≡ next = cc in
      by_same said (with_id files end id said) next
      (length-set said.ids (external_count (take end (ends_of files))) id) same

order_keeps : (files : List File) (said next : Opening) (order : Order) → opened_by files said order ≡ Ok next →
    KeepsCount said next
order_keeps files said next (Destination d) e = by (is_some said.destination) e where
  by : (b : Bool) → cond b (Err (causes.Line OutOfPlace))
      (Ok (record { destination = Some d; named = said.named; ids = said.ids })) ≡ Ok next → KeepsCount said next
  by true k = cc
  by false k =
      let made : Opening = record { destination = Some d; named = said.named; ids = said.ids } in
      let same : made ≡ next = cc in by_same said made next refl same
order_keeps files said next (Identify peer id) e = by (is_some said.destination) e where
  by : (b : Bool) → cond b (identified files said peer id) (Err (causes.Line OutOfPlace)) ≡ Ok next →
      KeepsCount said next
  by true k = identified_keeps files said next peer id k
  by false k = cc
order_keeps files said next (Take event) e = cc
order_keeps files said next (Run count) e = cc

line_keeps : (files : List File) (said next : Opening) (line : Line) → next_opened files said line ≡ Ok next →
    KeepsCount said next
unfolding next_opened
line_keeps files said next line e = by (is_skipped line.words) e where
  by_order : (r : Result Order SimulationCause) →
      refused_at line.number (following (opened_by files said) r) ≡ Ok next → KeepsCount said next
  by_order (Err why) k = cc
  by_order (Ok order) k = by_made (opened_by files said order) refl k where
    by_made : (made : Result Opening SimulationCause) → opened_by files said order ≡ made →
        refused_at line.number made ≡ Ok next → KeepsCount said next
    by_made (Err why) is j = cc
    by_made (Ok one) is j =
        let same : one ≡ next = cc in by_same said one next (order_keeps files said one order is) same

  by : (b : Bool) → cond b (Ok said) (refused_at line.number (following (opened_by files said)
      (ordered files line.words))) ≡ Ok next → KeepsCount said next
  by true k = let same : said ≡ next = cc in by_same said said next refl same
  by false k = by_order (ordered files line.words) k

-- so do all
lines_keep : (files : List File) (said next : Opening) (lines : List Line) →
    in_turn (next_opened files) said lines ≡ Ok next → KeepsCount said next
unfolding in_turn
lines_keep files said next [] e = let same : said ≡ next = cc in by_same said said next refl same
lines_keep files said next (line ∷ rest) e =
    by (next_opened files said line) refl (λ mid k. lines_keep files mid next rest k) e
  where
    by : (r : Result Opening SimulationRefused) → next_opened files said line ≡ r →
        ((mid : Opening) → in_turn (next_opened files) mid rest ≡ Ok next → KeepsCount mid next) →
        following (λ mid. in_turn (next_opened files) mid rest) r ≡ Ok next → KeepsCount said next
    by (Err why) is more k = cc
    by (Ok mid) is more k = more mid k ∙ line_keeps files said mid line is

-- there is one identifier for each external peer
pub start_ids : (files : List File) (lines events : List Line) (said : Opening) (start : Start) →
    in_turn (next_opened files) (unopened files) lines ≡ Ok said → start_by files events said ≡ Ok start →
    length start.ids ≡ length (external_ends files)
start_ids files lines events said start reads e =
    by said.destination
    (lines_keep files (unopened files) said lines reads ∙ length-map (external_ends files) (default_id files)) e
  where
    by : (d : Option Addr) → length said.ids ≡ length (external_ends files) →
        option_map_or (λ a. Ok (record { destination = a; ids = said.ids })) d (Err (no_start files events))
        ≡ Ok start →
        length start.ids ≡ length (external_ends files)
    by None many k = cc
    by (Some a) many k =
        let made : Start = record { destination = a; ids = said.ids } in
        let same : made ≡ start = cc in ap (λ x. length x.ids) (sym same) ∙ many
