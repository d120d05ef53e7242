-- What is read meets the format.
use Rattle.std.proofs.Common.{◌≡◌, ℕ, suc, ◌-◌, ◌<◌, List, [], ◌∷◌, ◌++◌, length, Bool, true, nat_lt, nat_le, Option}
use Rattle.std.proofs.Common.{Some, option_map, option_and_then, Ok, refl, sym, ap, ◌∙◌, subst, arith}
use Rattle.std.specs.Prelude.{All, position, slice_get, codes}
use Rattle.std.specs.List.{list_all}
use Rattle.std.specs.Option.{option_map_or}
use Rattle.std.proofs.lemmas.Bool.{and_from, and_parts, leb-true}
use Rattle.std.proofs.lemmas.List.Elements.{All-append, All-cons}
use Rattle.std.proofs.lemmas.List.Quantifiers.{position-Some}
use Rattle.mw_text.proofs.Lists.{below_below}
use Rattle.net_interfaces.proofs.Options.{chained}
use Rattle.net_parts.specs.declared.links.Link.{Link}
use Rattle.mw_text.specs.Address.{same_prefix}
use Rattle.mw_text.specs.Digits.{prefix_of_text}
use Rattle.ios_ast.specs.declared.file.File.{File}
use Rattle.route_record.specs.declared.Failures.{Failures}
use Rattle.net_parts.specs.World.{IsFailureSet, ascends, links_of}
use Rattle.question_lang.specs.declared.question.Question.{Question}
use Rattle.serde_json.specs.Data.{Data}
use Rattle.cex_json.specs.declared.counterexample.Counterexample.{Counterexample}
use Rattle.cex_json.specs.declared.reader.Limits.{Limits}
use Rattle.cex_json.specs.declared.reader.Surroundings.{Surroundings}
use Rattle.cex_json.specs.Entries.{slots_in}
use Rattle.cex_json.specs.Fields.{in_order, is_above, members_in, passing, place_of, required, text_in}
use Rattle.cex_json.specs.Reading.{asked_place, cex_in, format_in, limits, surroundings_in, walk_for}
use Rattle.cex_json.specs.Surroundings.{announcements_in, failures_in, ids_in, link_named, link_step, packet_in}
use Rattle.cex_json.proofs.Inversion.{bound, field, grown, kept, passed, same_ok, same_some}

last-cons : (a b : ℕ) (rest : List ℕ) →
    slice_get (a ∷ b ∷ rest) (length (a ∷ b ∷ rest) - 1) ≡ slice_get (b ∷ rest) (length (b ∷ rest) - 1)
last-cons a b rest =
    let n : length (a ∷ b ∷ rest) - 1 ≡ suc (length rest) = omega arith in
    let m : length (b ∷ rest) - 1 ≡ length rest = omega arith in
    ap (slice_get (a ∷ b ∷ rest)) n ∙ sym (ap (slice_get (b ∷ rest)) m)

-- all numbers that ascend are below one above the last
all_below : (xs : List ℕ) (n : ℕ) → ascends xs ≡ true → is_above xs n ≡ true → list_all (λ x. nat_lt x n) xs ≡ true
all_below [] n up above = refl
all_below (a ∷ []) n up above = and_from (nat_lt a n) true above refl
all_below (a ∷ b ∷ rest) n up above =
    let parts = and_parts (list_all (nat_lt a) (b ∷ rest)) (ascends (b ∷ rest)) up in
    let deeper : is_above (b ∷ rest) n
    ≡ true = ap (λ o. option_map_or (λ last. nat_lt last n) o true) (sym (last-cons a b rest)) ∙ above in
    let others = all_below (b ∷ rest) n parts.1 deeper in
    let next = (and_parts (nat_lt a b) (list_all (nat_lt a) rest) parts.0).0 in
    let here = (and_parts (nat_lt b n) (list_all (λ x. nat_lt x n) rest) others).0 in
    and_from (nat_lt a n) (list_all (λ x. nat_lt x n) (b ∷ rest)) (below_below a b n next here) others

all_one : (p : ℕ → Bool) (xs : List ℕ) (n : ℕ) → list_all p xs ≡ true → p n ≡ true → list_all p (xs ++ n ∷ []) ≡ true
all_one p [] n holds one = and_from (p n) true one refl
all_one p (x ∷ xs) n holds one =
    let parts = and_parts (p x) (list_all p xs) holds in
    and_from (p x) (list_all p (xs ++ n ∷ [])) parts.0 (all_one p xs n parts.1 one)

ascends_below : (xs : List ℕ) (n : ℕ) → ascends xs ≡ true → list_all (λ x. nat_lt x n) xs ≡ true
    → ascends (xs ++ n ∷ []) ≡ true
ascends_below [] n up below = refl
ascends_below (a ∷ rest) n up below =
    let parts = and_parts (list_all (nat_lt a) rest) (ascends rest) up in
    let under = and_parts (nat_lt a n) (list_all (λ x. nat_lt x n) rest) below in
    and_from (list_all (nat_lt a) (rest ++ n ∷ [])) (ascends (rest ++ n ∷ []))
    (all_one (nat_lt a) rest n parts.0 under.0)
    (ascends_below rest n parts.1 under.1)

-- numbers that ascend, and one above the last
pub ascends_more : (xs : List ℕ) (n : ℕ) → ascends xs ≡ true → is_above xs n ≡ true → ascends (xs ++ n ∷ []) ≡ true
ascends_more xs n up above = ascends_below xs n up (all_below xs n up above)

-- a link that has a name is one
link_within : (links : List Link) (word : List ℕ) (at : ℕ) → link_named links word ≡ Some at → at < length links
unfolding place_of
link_within links word at same =
    let named =
    chained (λ p. place_of (position (λ link. same_prefix p link.prefix) links)) (prefix_of_text word) at same in
    let here = passed (λ k. nat_le k _) (position (λ link. same_prefix named.0 link.prefix) links) at named.2 in
    let d : Link = record { prefix = named.0; ifaces = [] } in
    (position-Some (λ link. same_prefix named.0 link.prefix) links at d here.0).0

-- failed links ascend, and are links
pub record AreLinks (count : ℕ) (links : List ℕ) : Type 0 where
  pub ascending : ascends links ≡ true
  pub of_links : All (λ at. at < count) links

link_kept : (links : List Link) (i : ℕ) (so_far : List ℕ) (d : Data) (next : List ℕ)
    → AreLinks (length links) so_far →
    link_step links i so_far d ≡ Ok next → AreLinks (length links) next
link_kept links i so_far d next before same =
    let one = grown [] (codes "failures") so_far
    (passing (is_above so_far) (option_and_then (link_named links) (text_in (Some d)))) next same in
    let above = passed (is_above so_far) (option_and_then (link_named links) (text_in (Some d))) one.0 one.1 in
    let named = chained (link_named links) (text_in (Some d)) one.0 above.0 in
    let P : ℕ → Type 0 = λ at. at < length links in
    let grown_links : AreLinks (length links) (so_far ++ one.0 ∷ []) = record {
      ascending = ascends_more so_far one.0 before.ascending above.1;
      of_links = All-append P so_far (one.0 ∷ []) before.of_links
          (All-cons P one.0 [] (link_within links named.0 one.0 named.2) (λ k x within. absurd (omega arith)));
    } in
    subst (AreLinks (length links)) (sym one.2) grown_links

-- the failed links that are read
failures_fit : (files : List File) (most : Option ℕ) (d : Data) (links : List ℕ) → failures_in files most d ≡ Ok links →
    AreLinks (length (links_of files)) links × (option_map_or (nat_le (length links)) most true ≡ true)
unfolding failures_in
failures_fit files most d links same =
    let members = bound (members_in [] (codes "failures") d) _ links same in
    let all = bound (in_order (link_step (links_of files)) 0 [] members.0) _ links members.2 in
    let few = passed (λ xs. option_map_or (nat_le (length xs)) most true) (Some all.0) links
    (field [] (codes "failures") _ links all.2) in
    let P : List ℕ → Type 0 = AreLinks (length (links_of files)) in
    let none : AreLinks (length (links_of files)) [] =
    record { ascending = refl; of_links = λ k x within. absurd (omega arith) } in
    let fit = kept P (link_step (links_of files)) (link_kept (links_of files)) 0 [] members.0 all.0 none all.1 in
    (subst P (same_some all.0 links few.0) fit, few.1)

surroundings_links : (files : List File) (limits : Limits) (d : Data) (around : Surroundings)
    → surroundings_in files limits d ≡ Ok around →
    failures_in files limits.failures d ≡ Ok around.links
unfolding surroundings_in
surroundings_links files limits d around same =
    let announced = bound (announcements_in files d) _ around same in
    let links = bound (failures_in files limits.failures d) _ around announced.2 in
    let format = bound (required [] (codes "format") (format_in d)) _ around links.2 in
    let packet = bound (packet_in limits.packets d) _ around format.2 in
    let ids = bound (ids_in files format.0 d) _ around packet.2 in
    links.1 ∙ ap (λ (s : Surroundings). Ok s.links) (same_ok _ around ids.2)

-- the limits that a question sets
pub limit_of : (questions : List Question) (d : Data) (place : ℕ) (question : Question) → asked_place questions d
    ≡ Some place →
    slice_get questions place ≡ Some question → (limits questions d).failures ≡ Some question.failures
unfolding limits
limit_of questions d place question asked there =
    ap (λ o. option_map (λ (q : Question). q.failures) (option_and_then (slice_get questions) o)) asked
    ∙ ap (option_map (λ (q : Question). q.failures)) there

-- the failed links are at most as many as the question allows
pub cex_failures : (files : List File) (questions : List Question) (d : Data) (cex : Counterexample)
    (question : Question) →
    cex_in files questions d ≡ Ok cex → slice_get questions cex.question ≡ Some question →
    IsFailureSet files question.failures cex.failures
unfolding cex_in
cex_failures files questions d cex question same there =
    let around = bound (surroundings_in files (limits questions d) d) _ cex same in
    let place = bound (required [] (codes "question") (asked_place questions d)) _ cex around.2 in
    let slots = bound (slots_in files d) _ cex place.2 in
    let walk = bound (walk_for files (slice_get questions place.0) d) _ cex slots.2 in
    let is = same_ok _ cex walk.2 in
    let asked = field [] (codes "question") (asked_place questions d) place.0 place.1 in
    let here : slice_get questions place.0
    ≡ Some question = ap (λ (c : Counterexample). slice_get questions c.question) is ∙ there in
    let fit = failures_fit files (limits questions d).failures d around.0.links
    (surroundings_links files (limits questions d) d around.0 around.1) in
    let most = ap (λ o. option_map_or (nat_le (length around.0.links)) o true)
    (sym (limit_of questions d place.0 question asked here)) ∙ fit.1 in
    let P : Failures → Type 0 = IsFailureSet files question.failures in
    let set : IsFailureSet files question.failures (record { links = around.0.links }) = record {
      ascending = fit.0.ascending;
      of_links = fit.0.of_links;
      at_most = leb-true (length around.0.links) question.failures most;
    } in
    subst P (ap (λ (c : Counterexample). c.failures) is) set
