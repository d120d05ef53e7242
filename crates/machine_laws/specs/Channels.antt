-- What was received over a channel and the mail that is on its way, and what becomes of both.
use Rattle.std.specs.Prelude.{◌≡◌, ℕ, zero, suc, ◌+◌, ◌<◌, ◌==◌, ◌&&◌, Bool, true, false, List, [], ◌∷◌, ◌++◌, fold}
use Rattle.std.specs.Prelude.{length, replicate, slice_get, slice_set, Option, Some, None, option_and_then, option_map}
use Rattle.std.specs.Prelude.{if◌then◌else◌}
use Rattle.std.specs.Option.{option_to_list}
use Rattle.route_record.specs.declared.TheConstants.{LENGTHS}
use Rattle.machine_laws.specs.declared.state.Channel.{Channel}
use Rattle.machine_laws.specs.declared.state.Mail.{Mail}

-- the last message received for a length: none where nothing was, or a withdrawal
abbrev pub last_received : {M : Type 0} → Channel M → ℕ → Option M
last_received c len = option_and_then (λ m. m) (slice_get c.received len)

-- what was last received over the channel at a place
abbrev pub heard : {M : Type 0} → List (Channel M) → ℕ → ℕ → Option M
heard channels at len = option_and_then (λ c. last_received c len) (slice_get channels at)

-- ---- what becomes of one channel

-- nothing received, and no mail
abbrev pub silent : {M : Type 0} → Channel M
silent = record { received = replicate LENGTHS None; mail = [] }

-- the front message is received, and the rest is still to come
abbrev pub received_one : {M : Type 0} → Channel M → Mail M → List (Mail M) → Channel M
received_one c m rest = record { received = slice_set c.received m.len m.what; mail = rest }

-- the channel after the delivery of its front message: none where there is no mail
abbrev pub taken : {M : Type 0} → Channel M → List (Mail M) → Option (Channel M)
taken c [] = None
taken c (m ∷ rest) = Some (received_one c m rest)

-- more mail behind what there is
abbrev pub posted : {M : Type 0} → List (Mail M) → Channel M → Channel M
posted more c = record { received = c.received; mail = c.mail ++ more }

-- one message about a length
abbrev pub one : {M : Type 0} → ℕ → Option M → List (Mail M)
one len what = record { len = len; what = what } ∷ []

-- one message for each of so many lengths, from that one on, for which there is something to send
unfoldable pub greetings : {M : Type 0} → ℕ → ℕ → (ℕ → Option M) → List (Mail M)
greetings zero len exports = []
greetings (suc n) len exports =
    option_to_list (option_map (λ m. record { len = len; what = Some m }) (exports len))
    ++ greetings n (len + 1) exports

-- what comes up gets the present exports
abbrev pub fresh : {M : Type 0} → (ℕ → Option M) → Channel M
fresh exports = record { received = replicate LENGTHS None; mail = greetings LENGTHS 0 exports }

-- a channel where failures changed, by whether it was up and whether it is: one that stays up keeps all, and one that is
-- down has nothing
abbrev pub renewed : {M : Type 0} → Bool → Bool → (ℕ → Option M) → Channel M → Channel M
renewed was is exports c = if is then (if was then c else fresh exports) else silent

-- ---- what becomes of all channels, by their places

-- each item with its place
abbrev pub each_at : {A B : Type 0} → (ℕ → A → B) → ℕ → List A → List B
each_at f n [] = []
each_at f n (x ∷ xs) = f n x ∷ each_at f (n + 1) xs

-- what is sent about a length over the channel at a place: one message where its source is the sender and it is up
abbrev pub batch : {M : Type 0} → (ℕ → Bool) → (ℕ → Bool) → (ℕ → ℕ → Option M) → ℕ → ℕ → List (Mail M)
batch source up exports len at = if source at && up at then one len (exports at len) else []

abbrev pub published : {M : Type 0} → (ℕ → Bool) → (ℕ → Bool) → (ℕ → ℕ → Option M) → ℕ → List (Channel M)
    → List (Channel M)
published source up exports len channels = each_at (λ at c. posted (batch source up exports len at) c) 0 channels

abbrev pub all_renewed : {M : Type 0} → (ℕ → Bool) → (ℕ → Bool) → (ℕ → ℕ → Option M) → List (Channel M)
    → List (Channel M)
all_renewed was is exports channels = each_at (λ at c. renewed (was at) (is at) (exports at) c) 0 channels

-- ---- what a channel states

-- what a message makes of what is stated for a length
abbrev pub said : {M : Type 0} → ℕ → Option M → Mail M → Option M
said len last m = if m.len == len then m.what else last

-- what the last message for a length states, of what was received and the mail after it
unfoldable pub stated : {M : Type 0} → Channel M → ℕ → Option M
stated c len = fold (said len) (last_received c len) c.mail

-- a channel that is up states for each length what the far side sends now; one that is down has nothing
pub record IsRight {M : Type 0} (up : Bool) (exports : ℕ → Option M) (c : Channel M) : Type 0 where
  pub size : length c.received ≡ LENGTHS
  pub states : up ≡ true → (len : ℕ) → len < LENGTHS → stated c len ≡ exports len
  pub down : up ≡ false → c ≡ silent

-- so many channels, each of which is right by what is up and what is sent at its place
pub record AreRight {M : Type 0} (up : ℕ → Bool) (exports : ℕ → ℕ → Option M) (count : ℕ) (channels : List (Channel M))
    : Type 0 where
  pub as_many : length channels ≡ count
  pub each : (at : ℕ) (c : Channel M) → slice_get channels at ≡ Some c → IsRight (up at) (exports at) c
