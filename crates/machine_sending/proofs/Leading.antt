-- Planned changes lead to the channels that events make.
use Rattle.std.proofs.Common.{◌≡◌, ◌∙◌, ◌&&◌, ℕ, ◌+◌, Bool, true, false, List, [], ◌∷◌, length, map, Option, Some, None}
use Rattle.std.proofs.Common.{refl, ap, sym, subst}
use Rattle.std.specs.Prelude.{All, if◌then◌else◌}
use Rattle.std.specs.List.{range_with_len}
use Rattle.machine_laws.specs.declared.state.Channel.{Channel}
use Rattle.machine_laws.specs.Channels.{all_renewed, batch, each_at, one, posted, published}
use Rattle.machine_laws.proofs.ChannelLaws.{posted_none}
use Rattle.machine_channels.specs.declared.channels.Change.{Change}
use Rattle.machine_channels.specs.Changes.{IsSmall, IsSmallChange, all_changed, renewal, sending}
use Rattle.machine_channels.proofs.Made.{made_as_many}
use Rattle.machine_channels.proofs.Planned.{published_by, renewed_by}
use Rattle.machine_sending.specs.Plans.{LeadsTo}

-- what is made of no item is the list
each_same : {X : Type 0} (f : ℕ → X → X) → ((at : ℕ) (x : X) → f at x ≡ x) → (n : ℕ) (xs : List X) → each_at f n xs ≡ xs
each_same f same n [] = refl
each_same f same n (x ∷ xs) =
    let here : f n x ≡ x = same n x in let more : each_at f (n + 1) xs ≡ xs = each_same f same (n + 1) xs in cc

leads_by : {M : Type 0} (channels after : List (Channel M)) (change : ℕ → Change M) (changes : List (Change M)) (count : ℕ) →
    changes ≡ map change (range_with_len 0 count) → length channels ≡ count →
    all_changed channels (map change (range_with_len 0 (length channels))) ≡ after →
    All IsSmall channels → All IsSmallChange changes → LeadsTo channels after (Some changes)
leads_by channels after change changes count made many to room small = record {
  ready = record {
    room = room;
    small = small;
    as_many = made_as_many change count changes made ∙ sym many;
  };
  makes = ap (all_changed channels) made
      ∙ (ap (λ n. all_changed channels (map change (range_with_len 0 n))) (sym many) ∙ to);
}

-- what a sender that has changed sends
pub told : {M : Type 0} (changed : Bool) (source up : ℕ → Bool) (ex : ℕ → ℕ → Option M) (len count : ℕ)
    (channels : List (Channel M)) (changes : List (Change M)) → changed ≡ true →
    changes ≡ map (sending source up ex len) (range_with_len 0 count) → length channels ≡ count →
    All IsSmall channels → All IsSmallChange changes →
    LeadsTo channels (published (λ at. changed && source at) up ex len channels) (Some changes)
told changed source up ex len count channels changes is made many room small =
    rw is (leads_by channels (published source up ex len channels) (sending source up ex len) changes count made many
    (published_by source up ex len channels) room small)

-- one that has not sends nothing
pub told_nothing : {M : Type 0} (changed : Bool) (source up : ℕ → Bool) (ex : ℕ → ℕ → Option M) (len : ℕ)
    (channels : List (Channel M)) → changed ≡ false →
    LeadsTo channels (published (λ at. changed && source at) up ex len channels) None
told_nothing changed source up ex len channels is = rw is (record {
  ready = tt;
  makes = sym (each_same (λ at c. posted (batch (λ k. false) up ex len at) c) (λ at c. posted_none c) 0 channels);
})

-- what becomes of channels where failures changed
pub renewed : {M : Type 0} (was is : ℕ → Bool) (ex : ℕ → ℕ → Option M) (count : ℕ) (channels : List (Channel M))
    (changes : List (Change M)) →
    changes ≡ map (λ at. renewal (was at) (is at) (ex at)) (range_with_len 0 count) → length channels ≡ count →
    All IsSmall channels → All IsSmallChange changes →
    LeadsTo channels (all_renewed was is ex channels) (Some changes)
renewed was is ex count channels changes made many room small =
    leads_by channels (all_renewed was is ex channels) (λ at. renewal (was at) (is at) (ex at)) changes count made many
    (renewed_by was is ex channels) room small
