-- Planned changes of all channels are what becomes of them.
use Rattle.std.proofs.Common.{◌≡◌, ℕ, ◌+◌, Bool, true, false, List, [], ◌∷◌, length, map, Option, refl, sym}
use Rattle.std.specs.Prelude.{◌&&◌, if◌then◌else◌}
use Rattle.std.specs.List.{range_with_len}
use Rattle.machine_laws.specs.declared.state.Channel.{Channel}
use Rattle.machine_laws.specs.Channels.{all_renewed, batch, each_at, one, posted, published, renewed}
use Rattle.machine_laws.proofs.ChannelLaws.{posted_none}
use Rattle.machine_channels.specs.declared.channels.Change.{Change}
use Rattle.machine_channels.specs.declared.channels.Change.TheVariants.{Keep, Add}
use Rattle.machine_channels.specs.Changes.{all_changed, changed, renewal, sending}

sent_as : {M : Type 0} (source up : Bool) (len : ℕ) (what : Option M) (c : Channel M) →
    changed (if source && up then Add (one len what) else Keep) c ≡ posted (if source && up then one len what else []) c
sent_as true true len what c = refl
sent_as true false len what c = sym (posted_none c)
sent_as false true len what c = sym (posted_none c)
sent_as false false len what c = sym (posted_none c)

renewed_as : {M : Type 0} (was is : Bool) (ex : ℕ → Option M) (c : Channel M) →
    changed (renewal was is ex) c ≡ renewed was is ex c
renewed_as true true ex c = refl
renewed_as false true ex c = refl
renewed_as true false ex c = refl
renewed_as false false ex c = refl

changed_by : {M : Type 0} (change : ℕ → Change M) (f : ℕ → Channel M → Channel M) →
    ((at : ℕ) (c : Channel M) → changed (change at) c ≡ f at c) → (n : ℕ) (cs : List (Channel M)) →
    all_changed cs (map change (range_with_len n (length cs))) ≡ each_at f n cs
changed_by change f same n [] = refl
changed_by change f same n (c ∷ cs) =
    let here : changed (change n) c ≡ f n c = same n c in
    let more : all_changed cs (map change (range_with_len (n + 1) (length cs))) ≡ each_at f (n + 1) cs =
    changed_by change f same (n + 1) cs in
    cc

-- what a source is to send is what it publishes
pub published_by : {M : Type 0} (source up : ℕ → Bool) (ex : ℕ → ℕ → Option M) (len : ℕ) (cs : List (Channel M)) →
    all_changed cs (map (sending source up ex len) (range_with_len 0 (length cs))) ≡ published source up ex len cs
published_by source up ex len cs =
    changed_by (sending source up ex len) (λ at c. posted (batch source up ex len at) c)
    (λ at c. sent_as (source at) (up at) len (ex at len) c) 0 cs

pub renewed_by : {M : Type 0} (was is : ℕ → Bool) (ex : ℕ → ℕ → Option M) (cs : List (Channel M)) →
    all_changed cs (map (λ at. renewal (was at) (is at) (ex at)) (range_with_len 0 (length cs)))
    ≡ all_renewed was is ex cs
renewed_by was is ex cs =
    changed_by (λ at. renewal (was at) (is at) (ex at)) (λ at c. renewed (was at) (is at) (ex at) c)
    (λ at c. renewed_as (was at) (is at) (ex at) c) 0 cs
