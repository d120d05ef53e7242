-- What is learnt where silent routers send nothing: none of them is heard, and of the others nothing changes.
use Rattle.std.proofs.Common.{◌≡◌, ◌∙◌, ◌==◌, ◌&&◌, ℕ, Bool, true, false, not, List, Option, None, refl, sym, ap}
use Rattle.std.proofs.Common.{if◌then◌else◌, map}
use Rattle.std.proofs.lemmas.Bool.{false≢true}
use Rattle.ios_ast.specs.declared.file.File.{File}
use Rattle.route_record.specs.declared.tracked.Tracked.{Tracked}
use Rattle.net_parts.specs.declared.sessions.SessionEnd.{SessionEnd}
use Rattle.net_parts.specs.Resolution.{session_up}
use Rattle.route_shapes.specs.Bgp.{BgpShape}
use Rattle.bgp_shapes.specs.Candidates.{ShapeCandidate, shape_arriving, shape_learnt}
use Rattle.silent_routers.specs.Silent.{is_behind_silent}
use Rattle.silent_routers.proofs.Heard.{arriving_heard}
use Rattle.term_store.specs.Terms.{Reading}
use Rattle.term_arith.specs.declared.Bits.{Bits}
use Rattle.sym_policy.specs.declared.records.SymNet.{SymNet}
use Rattle.sym_policy.specs.Held.{failures_of}
use Rattle.sym_policy.specs.Records.{address_of, prefix_of}
use Rattle.sym_rib.specs.declared.slots.SymTables.{SymTables}
use Rattle.bgp_equations.specs.declared.environment.SymEnv.{SymEnv}
use Rattle.bgp_equations.specs.Environments.{environment_read}
use Rattle.bgp_equations.specs.Equations.{learnt_by, learnt_read, slots_read}

pub heard_parts : (own behind : Bool) → (own && not behind) ≡ true → (own ≡ true) × (behind ≡ false)
heard_parts true false heard = (refl, refl)
heard_parts true true heard = absurd (false≢true heard)
heard_parts false behind heard = absurd (false≢true heard)

module _ (w : Reading) (tracked : Tracked) (files : List File) (s : SymNet) (env : SymEnv) (tables : SymTables)
    (dst : Bits) (len at : ℕ) (end : SessionEnd) where
  abbrev learnt_of : Option BgpShape → Option ShapeCandidate
  learnt_of message =
      shape_learnt tracked files (failures_of w s) (map (address_of w) env.ids) (prefix_of w dst len) at end message

  abbrev arrives : Option BgpShape
  arrives =
      shape_arriving tracked files (environment_read w files tables.lens.now env) (slots_read w tables len)
      (prefix_of w dst len) at end

  heard_as : (b : Bool) → is_behind_silent files end ≡ b →
      learnt_read w tracked files s env tables dst len (at, end) ≡ learnt_of (if b then None else arrives)
  heard_as b is =
      ap learnt_of (arriving_heard tracked files (environment_read w files tables.lens.now env) (slots_read w tables len)
      (prefix_of w dst len) at end ∙ ap (λ c. if c then None else arrives) is)

  pub learnt_heard : is_behind_silent files end ≡ false →
      learnt_read w tracked files s env tables dst len (at, end) ≡ learnt_of arrives
  learnt_heard loud = heard_as false loud

  abbrev nothing : Option ShapeCandidate
  nothing = None

  learnt_nothing : (b : Bool) → (if b then nothing else nothing) ≡ nothing
  learnt_nothing true = refl
  learnt_nothing false = refl

  -- what is not heard is no candidate
  pub unheard : (router : ℕ) → ((end.router == router) && not (is_behind_silent files end)) ≡ false →
      learnt_by (learnt_read w tracked files s env tables dst len) router at end ≡ None
  unheard router not_heard = by (end.router == router) (is_behind_silent files end) refl not_heard where
    by : (own behind : Bool) → is_behind_silent files end ≡ behind → (own && not behind) ≡ false →
        (if own then learnt_read w tracked files s env tables dst len (at, end) else None) ≡ None
    by false behind is none = refl
    by true false is none = absurd (false≢true (sym none))
    by true true is none = heard_as true is ∙ learnt_nothing (session_up files (failures_of w s) end)
