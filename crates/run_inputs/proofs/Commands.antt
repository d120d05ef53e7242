-- What comes of a command.
use Rattle.std.proofs.Common.{◌≡◌, ℕ, suc, ◌+◌, ◌<◌, true, false, List, [], ◌∷◌, ◌++◌, length, refl, ap, sym, arith, ◌∙◌, subst}
use Rattle.std.proofs.Common.{Option, Some, None, Result, Ok, Err, option_map}
use Rattle.std.specs.Prelude.{IfOk, IfErr, IfSome, is_some, option_and_then}
use Rattle.mw_text.proofs.Found.{if_told_one}
use Rattle.mw_outside.specs.Contents.{Contents}
use Rattle.mw_outside.specs.Faults.{Rose}
use Rattle.mw_words.specs.Asked.{Asked, asked_of, gen, verify}
use Rattle.run_inputs.specs.declared.load.Stop.{Stop}
use Rattle.run_inputs.specs.declared.load.Stop.TheVariants.{Refused, ReadFault, Memory}
use Rattle.run_inputs.specs.declared.work.Work.{Work}
use Rattle.run_inputs.specs.Due.{Command, IsDue, IsDueBy, IsMadeDue, Outcome, budget_of, checked_due, command_by}
use Rattle.run_inputs.specs.Due.{command_of, either, files_due, is_command, outcome_by, refused, replayed_due}
use Rattle.run_inputs.specs.Due.{ring_asked, ring_due, ring_text, ring_texts, routers_of, sized_due, to_check, to_gen}
use Rattle.run_inputs.specs.Due.{simulated_due, to_replay, to_simulate, to_verify, unread, usage}
use Rattle.run_inputs.specs.declared.text.Text.{Text}
use Rattle.simulation.specs.declared.simulating.Simulated.{Simulated}
use Rattle.run_inputs.specs.Loading.{ComesTo, IsReady, IsSaidOf, OnStop, UnlessReadFault, WorksSo}
use Rattle.run_inputs.specs.Order.{StopsAt, StopsIn, order_by}
use Rattle.run_inputs.proofs.Loading.{on_stop-map}

-- ---- what is due for a command

pub due_said : (told : Option Contents) (command : Command) (outcome : Outcome) →
    IfSome told (λ contents. outcome_by contents command ≡ outcome) → IsMadeDue (Some command) outcome →
    IsDueBy told (Some command) outcome
due_said told command outcome said made = record {
  no_command = λ h. let e : true ≡ false = h in cc;
  told = said;
  made = made;
}

-- its work was read and parsed
pub works_ok : (told : Option Contents) (o : Option Command) (command : Command) (work : Work) (outcome : Outcome)
    (faults faults_now : ℕ) (last last_now : Option (List ℕ)) → o ≡ Some command →
    IsDueBy told (Some command) outcome → ComesTo work outcome → IsReady work → faults_now ≡ faults →
    last_now ≡ last → WorksSo told o faults faults_now last last_now (Ok (Some work))
works_ok told o command work outcome faults faults_now last last_now is is_due comes ready quiet stays =
    let W : Option Command → Type 0 = λ c. WorksSo told c faults faults_now last last_now (Ok (Some work)) in
    subst W (sym is) (refl, quiet, stays, (outcome, is_due, comes), ready)

-- or that stopped
pub works_stop : (A : Type 0) (told : Option Contents) (o : Option Command) (command : Command) (stop : Stop)
    (faults faults_now : ℕ) (last last_now : Option (List ℕ)) → o ≡ Some command →
    OnStop stop (λ line. IsDueBy told (Some command) (refused line))
    (Rose faults faults_now × StopsIn told (order_by (Some command)) last_now) →
    UnlessReadFault {A = A} (Err stop) (faults_now ≡ faults) → UnlessReadFault {A = A} (Err stop) (last_now ≡ last) →
    WorksSo told o faults faults_now last last_now (Err stop)
works_stop A told o command (Refused line) faults faults_now last last_now is so quiet stays =
    let W : Option Command → Type 0 = λ c. WorksSo told c faults faults_now last last_now (Err (Refused line)) in
    subst W (sym is) (refl, quiet, stays, so)
works_stop A told o command ReadFault faults faults_now last last_now is so quiet stays =
    let W : Option Command → Type 0 = λ c. WorksSo told c faults faults_now last last_now (Err ReadFault) in
    subst W (sym is) (refl, so.0, so.1)
works_stop A told o command Memory faults faults_now last last_now is so quiet stays = (quiet, stays)

-- and where the words are none
pub works_none : (told : Option Contents) (o : Option Command) (faults : ℕ) (last : Option (List ℕ)) → o ≡ None →
    WorksSo told o faults faults last last (Ok None)
works_none told o faults last is = (ap is_some is, refl, refl)

-- the same, where the command is known
pub works_as : (told : Option Contents) (o known : Option Command) (faults faults_now : ℕ)
    (last last_now : Option (List ℕ)) (result : Result (Option Work) Stop) → o ≡ known →
    WorksSo told known faults faults_now last last_now result → WorksSo told o faults faults_now last last_now result
works_as told o known faults faults_now last last_now result is so =
    let W : Option Command → Type 0 = λ c. WorksSo told c faults faults_now last last_now result in subst W (sym is) so

-- ---- each command

-- `verify` with its number
pub verify_command : (conflicts : Option (List ℕ)) (asked : List ℕ) (names : List (List ℕ)) (found : Option ℕ)
    (budget : ℕ) → found ≡ budget_of conflicts → found ≡ Some budget →
    command_by (verify conflicts asked names) ≡ Some (to_verify budget asked names)
verify_command conflicts asked names found budget value is =
    ap (option_map (λ b. to_verify b asked names)) (sym value ∙ is)

pub verify_none : (conflicts : Option (List ℕ)) (asked : List ℕ) (names : List (List ℕ)) (found : Option ℕ) →
    found ≡ budget_of conflicts → found ≡ None → command_by (verify conflicts asked names) ≡ None
verify_none conflicts asked names found value is = ap (option_map (λ b. to_verify b asked names)) (sym value ∙ is)

-- `gen` with its numbers
pub gen_command : (conflicts : Option (List ℕ)) (count : List ℕ) (found : Option ℕ) (budget : ℕ) →
    found ≡ budget_of conflicts → found ≡ Some budget →
    command_by (gen conflicts count) ≡ option_map (to_gen budget) (routers_of count)
gen_command conflicts count found budget value is =
    ap (option_and_then (λ b. option_map (to_gen b) (routers_of count))) (sym value ∙ is)

pub gen_none : (conflicts : Option (List ℕ)) (count : List ℕ) (found : Option ℕ) → found ≡ budget_of conflicts →
    found ≡ None → command_by (gen conflicts count) ≡ None
gen_none conflicts count found value is =
    ap (option_and_then (λ b. option_map (to_gen b) (routers_of count))) (sym value ∙ is)

pub counted : (budget : ℕ) (count : List ℕ) (found : Option ℕ) (wanted : Option ℕ) → found ≡ routers_of count →
    found ≡ wanted → option_map (to_gen budget) (routers_of count) ≡ option_map (to_gen budget) wanted
counted budget count found wanted value is = ap (option_map (to_gen budget)) (sym value ∙ is)

-- the texts of a ring come to what is due
pub ring_same : (budget routers : ℕ) (texts : List Text) (asked : Text) → texts ≡ ring_texts routers routers →
    asked ≡ ring_asked routers → sized_due budget routers texts asked ≡ ring_due budget routers
ring_same budget routers texts asked all one =
    ap (λ ts. sized_due budget routers ts asked) all
    ∙ ap (sized_due budget routers (ring_texts routers routers)) one

-- the texts with one more
pub ring_more : (n c : ℕ) → ring_texts n (c + 1) ≡ ring_texts n c ++ ring_text n (c + 1) ∷ []
unfolding ring_texts
ring_more n c = let e : c + 1 ≡ suc c = omega arith in ap (ring_texts n) e

-- some name is read
some_name : (names : List (List ℕ)) (name : List ℕ) (rest : List (List ℕ)) → 0 < length (names ++ name ∷ rest)
some_name [] name rest = omega arith
some_name (x ∷ names) name rest = omega arith

-- what was read and parsed for each command is due, and where that stopped
pub verify_due : (told : Option Contents) (budget : ℕ) (asked : List ℕ) (names : List (List ℕ)) (outcome : Outcome) →
    IfSome told (λ contents. files_due contents budget asked names ≡ Ok outcome) →
    IsDueBy told (Some (to_verify budget asked names)) outcome
verify_due told budget asked names outcome said =
    due_said told (to_verify budget asked names) outcome
    (if_told_one told (λ contents. files_due contents budget asked names ≡ Ok outcome) _ said (λ contents so. ap either so))
    tt

pub verify_stopped : (told : Option Contents) (budget : ℕ) (asked : List ℕ) (names : List (List ℕ)) (stop : Stop)
    (faults faults_now : ℕ) (last : Option (List ℕ)) →
    OnStop stop (λ line. IfSome told (λ contents. files_due contents budget asked names ≡ Err (refused line)))
    (Rose faults faults_now × StopsAt told (names ++ asked ∷ []) last) →
    OnStop stop (λ line. IsDueBy told (Some (to_verify budget asked names)) (refused line))
    (Rose faults faults_now × StopsIn told (names ++ asked ∷ []) last)
verify_stopped told budget asked names stop faults faults_now last so =
    on_stop-map stop _ _ _ _ so
    (λ line said. due_said told (to_verify budget asked names) (refused line)
    (if_told_one told (λ contents. files_due contents budget asked names ≡ Err (refused line)) _ said
    (λ contents is. ap either is)) tt)
    (λ said. (said.0, (some_name names asked [], said.1)))

pub check_due_by : (told : Option Contents) (log asked : List ℕ) (names : List (List ℕ)) (outcome : Outcome) →
    IfSome told (λ contents. checked_due contents log asked names ≡ Ok outcome) →
    IsDueBy told (Some (to_check log asked names)) outcome
check_due_by told log asked names outcome said =
    due_said told (to_check log asked names) outcome
    (if_told_one told (λ contents. checked_due contents log asked names ≡ Ok outcome) _ said (λ contents so. ap either so))
    tt

pub check_stopped : (told : Option Contents) (log asked : List ℕ) (names : List (List ℕ)) (stop : Stop)
    (faults faults_now : ℕ) (last : Option (List ℕ)) →
    OnStop stop (λ line. IfSome told (λ contents. checked_due contents log asked names ≡ Err (refused line)))
    (Rose faults faults_now × StopsAt told (names ++ asked ∷ log ∷ []) last) →
    OnStop stop (λ line. IsDueBy told (Some (to_check log asked names)) (refused line))
    (Rose faults faults_now × StopsIn told (names ++ asked ∷ log ∷ []) last)
check_stopped told log asked names stop faults faults_now last so =
    on_stop-map stop _ _ _ _ so
    (λ line said. due_said told (to_check log asked names) (refused line)
    (if_told_one told (λ contents. checked_due contents log asked names ≡ Err (refused line)) _ said
    (λ contents is. ap either is)) tt)
    (λ said. (said.0, (some_name names asked (log ∷ []), said.1)))

pub replay_due_by : (told : Option Contents) (cex asked : List ℕ) (names : List (List ℕ)) (outcome : Outcome) →
    IfSome told (λ contents. replayed_due contents cex asked names ≡ Ok outcome) →
    IsDueBy told (Some (to_replay cex asked names)) outcome
replay_due_by told cex asked names outcome said =
    due_said told (to_replay cex asked names) outcome
    (if_told_one told (λ contents. replayed_due contents cex asked names ≡ Ok outcome) _ said
    (λ contents so. ap either so))
    tt

pub replay_stopped : (told : Option Contents) (cex asked : List ℕ) (names : List (List ℕ)) (stop : Stop)
    (faults faults_now : ℕ) (last : Option (List ℕ)) →
    OnStop stop (λ line. IfSome told (λ contents. replayed_due contents cex asked names ≡ Err (refused line)))
    (Rose faults faults_now × StopsAt told (names ++ asked ∷ cex ∷ []) last) →
    OnStop stop (λ line. IsDueBy told (Some (to_replay cex asked names)) (refused line))
    (Rose faults faults_now × StopsIn told (names ++ asked ∷ cex ∷ []) last)
replay_stopped told cex asked names stop faults faults_now last so =
    on_stop-map stop _ _ _ _ so
    (λ line said. due_said told (to_replay cex asked names) (refused line)
    (if_told_one told (λ contents. replayed_due contents cex asked names ≡ Err (refused line)) _ said
    (λ contents is. ap either is)) tt)
    (λ said. (said.0, (some_name names asked (cex ∷ []), said.1)))

-- of a state to which events lead
pub simulate_due_by : (told : Option Contents) (events : List ℕ) (names : List (List ℕ)) (answer : Simulated) →
    (outcome : Outcome) × IfSome told (λ contents. simulated_due contents events names ≡ Ok outcome)
    × IsSaidOf outcome answer →
    (outcome : Outcome) × IsDueBy told (Some (to_simulate events names)) outcome × IsSaidOf outcome answer
simulate_due_by told events names answer (outcome, due, said) = (
  outcome,
  due_said told (to_simulate events names) outcome
      (if_told_one told (λ contents. simulated_due contents events names ≡ Ok outcome) _ due (λ contents so. ap either so))
      tt,
  said,
)

pub simulate_stopped : (told : Option Contents) (events : List ℕ) (names : List (List ℕ)) (stop : Stop)
    (faults faults_now : ℕ) (last : Option (List ℕ)) →
    OnStop stop (λ line. IfSome told (λ contents. simulated_due contents events names ≡ Err (refused line)))
    (Rose faults faults_now × StopsAt told (names ++ events ∷ []) last) →
    OnStop stop (λ line. IsDueBy told (Some (to_simulate events names)) (refused line))
    (Rose faults faults_now × StopsIn told (names ++ events ∷ []) last)
simulate_stopped told events names stop faults faults_now last so =
    on_stop-map stop _ _ _ _ so
    (λ line said. due_said told (to_simulate events names) (refused line)
    (if_told_one told (λ contents. simulated_due contents events names ≡ Err (refused line)) _ said
    (λ contents is. ap either is)) tt)
    (λ said. (said.0, (some_name names events [], said.1)))

all_due : (told : Option Contents) (budget routers : ℕ) (outcome : Outcome) → either (ring_due budget routers) ≡ outcome →
    IfSome told (λ contents. outcome_by contents (to_gen budget routers) ≡ outcome)
all_due None budget routers outcome is = tt
all_due (Some contents) budget routers outcome is = is

pub gen_due_by : (told : Option Contents) (budget routers : ℕ) (outcome : Outcome) → ring_due budget routers ≡ Ok outcome →
    IsDueBy told (Some (to_gen budget routers)) outcome
gen_due_by told budget routers outcome is =
    due_said told (to_gen budget routers) outcome (all_due told budget routers outcome (ap either is)) (ap either is)

pub gen_stopped : (told : Option Contents) (budget routers : ℕ) (stop : Stop) (faults faults_now : ℕ)
    (last : Option (List ℕ)) → OnStop stop (λ line. ring_due budget routers ≡ Err (refused line)) ⊥ →
    OnStop stop (λ line. IsDueBy told (Some (to_gen budget routers)) (refused line))
    (Rose faults faults_now × StopsIn told [] last)
gen_stopped told budget routers stop faults faults_now last so =
    on_stop-map stop _ _ _ _ so
    (λ line is. due_said told (to_gen budget routers) (refused line)
    (all_due told budget routers (refused line) (ap either is)) (ap either is))
    (λ never. absurd never)

-- a run that reads no file stops at none
pub quiet_stop : (A : Type 0) {P : Type 0} (stop : Stop) → P → UnlessReadFault {A = A} (Err stop) P
quiet_stop A (Refused line) p = p
quiet_stop A ReadFault p = tt
quiet_stop A Memory p = p

-- ---- the words

-- the command of the words is that of the request that they are
pub words_command : {R : Type 0} (asks : R → Asked) (request : R) (words : List (List ℕ)) →
    option_map asks (Some request) ≡ asked_of words → command_by (asks request) ≡ command_of words
words_command asks request words is = ap (option_and_then command_by) is

pub words_none : {R : Type 0} (asks : R → Asked) (words : List (List ℕ)) →
    option_map asks None ≡ asked_of words → command_of words ≡ None
words_none asks words is = ap (option_and_then command_by) (sym is)

pub works_for : (told : Option Contents) (o : Option Command) (words : List (List ℕ)) (faults faults_now : ℕ)
    (last last_now : Option (List ℕ)) (result : Result (Option Work) Stop) → o ≡ command_of words →
    WorksSo told o faults faults_now last last_now result →
    WorksSo told (command_of words) faults faults_now last last_now result
works_for told o words faults faults_now last last_now result is so =
    let W : Option Command → Type 0 = λ c. WorksSo told c faults faults_now last last_now result in subst W is so

pub so_none : (told : Option Contents) (o : Option Command) (faults faults_now : ℕ) (last last_now : Option (List ℕ))
    (result : Result (Option Work) Stop) → WorksSo told o faults faults_now last last_now result →
    IfOk result (λ work. work ≡ None → is_some o ≡ false)
so_none told o faults faults_now last last_now (Ok None) so = λ h. so.0
so_none told o faults faults_now last last_now (Ok (Some work)) so = λ h. absurd cc
so_none told o faults faults_now last last_now (Err stop) so = tt

pub so_command : (told : Option Contents) (o : Option Command) (faults faults_now : ℕ) (last last_now : Option (List ℕ))
    (result : Result (Option Work) Stop) → WorksSo told o faults faults_now last last_now result →
    IfOk result (λ work. IfSome work (λ _. is_some o ≡ true))
so_command told o faults faults_now last last_now (Ok None) so = tt
so_command told o faults faults_now last last_now (Ok (Some work)) so = so.0
so_command told o faults faults_now last last_now (Err stop) so = tt

pub so_stopped : (told : Option Contents) (o : Option Command) (faults faults_now : ℕ) (last last_now : Option (List ℕ))
    (result : Result (Option Work) Stop) → WorksSo told o faults faults_now last last_now result →
    IfErr result (λ stop. OnStop stop (λ _. is_some o ≡ true) (is_some o ≡ true))
so_stopped told o faults faults_now last last_now (Ok work) so = tt
so_stopped told o faults faults_now last last_now (Err (Refused line)) so = so.0
so_stopped told o faults faults_now last last_now (Err ReadFault) so = so.0
so_stopped told o faults faults_now last last_now (Err Memory) so = tt

pub so_due : (told : Option Contents) (o : Option Command) (faults faults_now : ℕ) (last last_now : Option (List ℕ))
    (result : Result (Option Work) Stop) → WorksSo told o faults faults_now last last_now result →
    IfOk result (λ work. IfSome work (λ w. (outcome : Outcome) × IsDueBy told o outcome × ComesTo w outcome))
so_due told o faults faults_now last last_now (Ok None) so = tt
so_due told o faults faults_now last last_now (Ok (Some work)) so = so.3
so_due told o faults faults_now last last_now (Err stop) so = tt

pub so_ready : (told : Option Contents) (o : Option Command) (faults faults_now : ℕ) (last last_now : Option (List ℕ))
    (result : Result (Option Work) Stop) → WorksSo told o faults faults_now last last_now result →
    IfOk result (λ work. IfSome work IsReady)
so_ready told o faults faults_now last last_now (Ok None) so = tt
so_ready told o faults faults_now last last_now (Ok (Some work)) so = so.4
so_ready told o faults faults_now last last_now (Err stop) so = tt

pub so_quiet : (told : Option Contents) (o : Option Command) (faults faults_now : ℕ) (last last_now : Option (List ℕ))
    (result : Result (Option Work) Stop) → WorksSo told o faults faults_now last last_now result →
    UnlessReadFault result (faults_now ≡ faults)
so_quiet told o faults faults_now last last_now (Ok None) so = so.1
so_quiet told o faults faults_now last last_now (Ok (Some work)) so = so.1
so_quiet told o faults faults_now last last_now (Err (Refused line)) so = so.1
so_quiet told o faults faults_now last last_now (Err ReadFault) so = tt
so_quiet told o faults faults_now last last_now (Err Memory) so = so.0

pub so_name : (told : Option Contents) (o : Option Command) (faults faults_now : ℕ) (last last_now : Option (List ℕ))
    (result : Result (Option Work) Stop) → WorksSo told o faults faults_now last last_now result →
    UnlessReadFault result (last_now ≡ last)
so_name told o faults faults_now last last_now (Ok None) so = so.2
so_name told o faults faults_now last last_now (Ok (Some work)) so = so.2
so_name told o faults faults_now last last_now (Err (Refused line)) so = so.2
so_name told o faults faults_now last last_now (Err ReadFault) so = tt
so_name told o faults faults_now last last_now (Err Memory) so = so.1

pub so_stop : (told : Option Contents) (o : Option Command) (faults faults_now : ℕ) (last last_now : Option (List ℕ))
    (result : Result (Option Work) Stop) → WorksSo told o faults faults_now last last_now result →
    IfErr result (λ stop. OnStop stop (λ line. IsDueBy told o (refused line))
    (Rose faults faults_now × StopsIn told (order_by o) last_now))
so_stop told o faults faults_now last last_now (Ok work) so = tt
so_stop told o faults faults_now last last_now (Err (Refused line)) so = so.3
so_stop told o faults faults_now last last_now (Err ReadFault) so = (so.1, so.2)
so_stop told o faults faults_now last last_now (Err Memory) so = tt

-- ---- what is due

due_none : (told : Option Contents) → IsDueBy told None usage
due_none None = record { no_command = λ h. refl; told = tt; made = tt }
due_none (Some contents) = record { no_command = λ h. refl; told = refl; made = tt }

-- usage, where the words are no command
pub due_usage : (told : Option Contents) (words : List (List ℕ)) → is_command words ≡ false → IsDue told words usage
due_usage told words none = by_command (command_of words) none where
  by_command : (o : Option Command) → is_some o ≡ false → IsDueBy told o usage
  by_command None is = due_none told
  by_command (Some command) is = let e : true ≡ false = is in absurd cc

-- something is due for all words
due_made : (contents : Contents) (command : Command) → IsMadeDue (Some command) (outcome_by contents command)
due_made contents (to_verify budget asked names) = tt
due_made contents (to_check log asked names) = tt
due_made contents (to_replay cex asked names) = tt
due_made contents (to_simulate events names) = tt
due_made contents (to_gen budget routers) = refl

due_untold : (command : Command) → (outcome : Outcome) × IsDueBy None (Some command) outcome
due_untold (to_verify budget asked names) = (unread, due_said None (to_verify budget asked names) unread tt tt)
due_untold (to_check log asked names) = (unread, due_said None (to_check log asked names) unread tt tt)
due_untold (to_replay cex asked names) = (unread, due_said None (to_replay cex asked names) unread tt tt)
due_untold (to_simulate events names) = (unread, due_said None (to_simulate events names) unread tt tt)
due_untold (to_gen budget routers) =
    (either (ring_due budget routers), due_said None (to_gen budget routers) (either (ring_due budget routers)) tt refl)

due_command : (command : Command) (told : Option Contents) → (outcome : Outcome) × IsDueBy told (Some command) outcome
due_command command None = due_untold command
due_command command (Some contents) = (
  outcome_by contents command,
  due_said (Some contents) command (outcome_by contents command) refl (due_made contents command),
)

pub some_due : (told : Option Contents) (words : List (List ℕ)) → (outcome : Outcome) × IsDue told words outcome
some_due told words = by_command (command_of words) where
  by_command : (o : Option Command) → (outcome : Outcome) × IsDueBy told o outcome
  by_command None = (usage, due_none told)
  by_command (Some command) = due_command command told
