-- Events that come by themselves, one after another.
use Rattle.std.proofs.Common.{◌≡◌, ◌∙◌, ℕ, zero, suc, List, Some, None, Result, Ok, Err, ap, refl, subst, sym}
use Rattle.std.specs.Prelude.{option_map}
use Rattle.mw_text.specs.declared.address.Addr.{Addr}
use Rattle.ios_ast.specs.declared.file.File.{File}
use Rattle.net_model.specs.Kept.{Network}
use Rattle.machine_laws.specs.declared.state.Event.{Event}
use Rattle.machine_laws.specs.declared.state.EventRefused.{EventRefused}
use Rattle.machine_laws.specs.declared.state.State.{State}
use Rattle.machine_laws.specs.Events.{after}
use Rattle.machine_laws.specs.Quiet.{next_event}
use Rattle.simulation.specs.Turns.{after_turn, turn, turned}

-- what the event that comes next makes of a state
pub turn_is : (files : List File) (d : Addr) (s : State) (event : Event) (r : Result State EventRefused) →
    next_event files d s ≡ Some event → after files d s event ≡ r → turn files d s ≡ Some r
turn_is files d s event r comes makes = ap (option_map (after files d s)) comes ∙ ap Some makes

pub turn_none : (files : List File) (d : Addr) (s : State) → next_event files d s ≡ None → turn files d s ≡ None
turn_none files d s none = ap (option_map (after files d s)) none

-- no turn is left
pub turned_none : (files : List File) (d : Addr) (left : ℕ) (s : State) → left ≡ zero → turned files d left s ≡ Ok s
unfolding turned
turned_none files d left s e = ap (λ k. turned files d k s) e

-- none comes
pub turned_done : (files : List File) (d : Addr) (left : ℕ) (s : State) → turn files d s ≡ None →
    turned files d left s ≡ Ok s
unfolding turned
turned_done files d zero s none = refl
turned_done files d (suc n) s none = ap (after_turn (turned files d n) s) none

pub turned_stays : (files : List File) (d : Addr) (left : ℕ) (s t : State) → turn files d s ≡ None → t ≡ s →
    turned files d left s ≡ Ok t
turned_stays files d left s t none same =
    subst (λ (x : State). turned files d left s ≡ Ok x) (sym same) (turned_done files d left s none)

-- the same turns over the same network and destination
pub turned_there : (from to : Network) (d e : Addr) (left : ℕ) (s : State) → to ≡ from → e ≡ d →
    turned to.files e left s ≡ turned from.files d left s
turned_there from to d e left s net there =
    ap (λ n. turned n.files e left s) net ∙ ap (λ a. turned from.files a left s) there

-- one is taken, and the others are left
pub turned_more : (files : List File) (d : Addr) (left others : ℕ) (s next : State) → left ≡ suc others →
    turn files d s ≡ Some (Ok next) → turned files d left s ≡ turned files d others next
unfolding turned
turned_more files d left others s next e taken =
    ap (λ k. turned files d k s) e ∙ ap (after_turn (turned files d others) s) taken

-- one is refused
pub turned_refused : (files : List File) (d : Addr) (left others : ℕ) (s : State) (why : EventRefused) →
    left ≡ suc others → turn files d s ≡ Some (Err why) → turned files d left s ≡ Err why
unfolding turned
turned_refused files d left others s why e refused =
    ap (λ k. turned files d k s) e ∙ ap (after_turn (turned files d others) s) refused
