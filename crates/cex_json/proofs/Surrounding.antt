-- What external peers are read to send is an environment of the network.
use Rattle.std.proofs.Common.{◌≡◌, ℕ, ◌+◌, ◌-◌, ◌^◌, ◌<◌, ◌≤◌, ◌⊎◌, List, [], ◌∷◌, ◌++◌, length, Bool, true, false}
use Rattle.std.proofs.Common.{◌&&◌, ◌||◌, ◌==◌, cond, nat_lt, nat_le, Option, Some, None, option_map, option_and_then}
use Rattle.std.proofs.Common.{Ok, inl}
use Rattle.std.proofs.Common.{inr, refl, sym, ap, ◌∙◌, subst, arith, get_or}
use Rattle.std.specs.Prelude.{All, AllPairs, IfSome, codes, position, slice_get}
use Rattle.std.specs.Option.{option_map_or}
use Rattle.std.proofs.lemmas.Bool.{and_parts, cases_lt, eqb-true, false≢true, leb-true, ltb-true, or_cases}
use Rattle.std.proofs.lemmas.List.Elements.{All-append, All-cons, All-nil}
use Rattle.std.proofs.lemmas.List.Quantifiers.{all_pairs_push, position-Some}
use Rattle.std.proofs.lemmas.Option.{slice_get-get_or}
use Rattle.mw_text.specs.declared.address.Addr.{Addr}
use Rattle.mw_text.specs.Digits.{addr_of}
use Rattle.ios_ast.specs.declared.bgp.Neighbour.{Neighbour}
use Rattle.ios_ast.specs.declared.file.File.{File}
use Rattle.route_record.specs.declared.Announcement.{Announcement}
use Rattle.route_record.specs.declared.Environment.{Environment}
use Rattle.net_interfaces.proofs.Options.{chained}
use Rattle.net_parts.specs.declared.sessions.SessionEnd.{SessionEnd}
use Rattle.net_parts.specs.Exports.{is_towards}
use Rattle.net_parts.specs.Sessions.{ends_of, external_ends, is_outside, neighbour_of}
use Rattle.net_parts.specs.World.{BeginsWithPeer, IsAnnouncement, IsAsNumber, IsEarlier, IsEnvironment, ascends}
use Rattle.question_lang.specs.declared.question.Question.{Question}
use Rattle.serde_json.specs.Data.{Data}
use Rattle.serde_json.specs.Find.{get}
use Rattle.cex_json.specs.declared.counterexample.Counterexample.{Counterexample}
use Rattle.cex_json.specs.declared.reader.Limits.{Limits}
use Rattle.cex_json.specs.declared.reader.Surroundings.{Surroundings}
use Rattle.cex_json.specs.declared.refused.CexRefused.{CexRefused}
use Rattle.cex_json.specs.Entries.{entry_path, origin_in, router_in, slots_in}
use Rattle.cex_json.specs.Fields.{addr_in, asn_step, ascending_in, ascending_step, greatest, in_order, is_above}
use Rattle.cex_json.specs.Fields.{members_in}
use Rattle.cex_json.specs.Fields.{number_in, object_in, passing, path_in, place_of, required, text_in}
use Rattle.cex_json.specs.Reading.{asked_place, cex_in, format_in, limits, surroundings_in, walk_for}
use Rattle.cex_json.specs.Surroundings.{announcement_at, announcement_step, announcements_in, asn_fits, asn_of_end}
use Rattle.cex_json.specs.Surroundings.{begins_with, end_in, end_named, failures_in, ids_in, is_later, is_outer_end}
use Rattle.cex_json.specs.Surroundings.{names_end}
use Rattle.cex_json.specs.Surroundings.{packet_in, peer_at, peer_step, sent_path}
use Rattle.cex_json.proofs.Fitting.{ascends_more}
use Rattle.cex_json.proofs.InSet.{addr_small}
use Rattle.cex_json.proofs.Inversion.{bound, field, grown, kept, no_value, passed, same_ok, same_some}
use Rattle.cex_json.proofs.Sizes.{number_small}

word_small : (n : ℕ) → n ≤ greatest → n < 2 ^ 32
word_small n small = omega arith

-- numbers that are read ascending
abbrev AreAscending : List ℕ → Type 0
AreAscending xs = (ascends xs ≡ true) × All (λ c. c < 2 ^ 32) xs

ascending_kept : (at name : List ℕ) (i : ℕ) (so_far : List ℕ) (d : Data) (next : List ℕ) → AreAscending so_far →
    ascending_step at name i so_far d ≡ Ok next → AreAscending next
ascending_kept at name i so_far d next before same =
    let one = grown at name so_far (passing (is_above so_far) (number_in greatest (Some d))) next same in
    let above = passed (is_above so_far) (number_in greatest (Some d)) one.0 one.1 in
    let P : ℕ → Type 0 = λ c. c < 2 ^ 32 in
    let small = word_small one.0 (number_small greatest (Some d) one.0 above.0) in
    let all = All-append P so_far (one.0 ∷ []) before.1 (All-cons P one.0 [] small (All-nil P)) in
    subst AreAscending (sym one.2) (ascends_more so_far one.0 before.0 above.1, all)

ascending_fit : (at name : List ℕ) (d : Data) (xs : List ℕ) → ascending_in at name d ≡ Ok xs → AreAscending xs
unfolding ascending_in
ascending_fit at name d xs same =
    let members = bound (members_in at name d) (in_order (ascending_step at name) 0 []) xs same in
    kept AreAscending (ascending_step at name) (ascending_kept at name) 0 [] members.0 xs
    (refl, All-nil (λ c. c < 2 ^ 32)) members.2

-- a path that is read has AS numbers
asn_kept : (at name : List ℕ) (i : ℕ) (so_far : List ℕ) (d : Data) (next : List ℕ) → All IsAsNumber so_far →
    asn_step at name i so_far d ≡ Ok next → All IsAsNumber next
asn_kept at name i so_far d next before same =
    let one = grown at name so_far (passing (nat_lt 0) (number_in greatest (Some d))) next same in
    let above = passed (nat_lt 0) (number_in greatest (Some d)) one.0 one.1 in
    let small = word_small one.0 (number_small greatest (Some d) one.0 above.0) in
    let number : IsAsNumber one.0 = (ltb-true 0 one.0 above.1, small) in
    let all = All-append IsAsNumber so_far (one.0 ∷ []) before
    (All-cons IsAsNumber one.0 [] number (All-nil IsAsNumber)) in
    subst (All IsAsNumber) (sym one.2) all

path_fit : (at name : List ℕ) (d : Data) (xs : List ℕ) → path_in at name d ≡ Ok xs → All IsAsNumber xs
unfolding path_in
path_fit at name d xs same =
    let members = bound (members_in at name d) (in_order (asn_step at name) 0 []) xs same in
    kept (All IsAsNumber) (asn_step at name) (asn_kept at name) 0 [] members.0 xs (All-nil IsAsNumber) members.2

-- a path that is sent begins with the peer's AS number
begins : (wanted : Option Neighbour) (path : List ℕ) →
    option_map_or (λ n. option_map_or (λ first. first == n) (slice_get path 0) false)
    (option_map (λ (neighbour : Neighbour). neighbour.asn) wanted) false ≡ true →
    IfSome wanted (λ neighbour. (rest : List ℕ) × (path ≡ neighbour.asn ∷ rest))
begins None path same = tt
begins (Some neighbour) [] same = absurd (false≢true same)
begins (Some neighbour) (first ∷ rest) same = (rest, ap (λ n. n ∷ rest) (eqb-true first neighbour.asn same))

sent_fit : (files : List File) (at : ℕ) (end : SessionEnd) (place : List ℕ) (d : Data) (path : List ℕ) →
    slice_get (ends_of files) at ≡ Some end → sent_path (asn_of_end files at) place d ≡ Ok path →
    ((length path ≤ 255) × All IsAsNumber path) × BeginsWithPeer files end path
unfolding sent_path asn_of_end
sent_fit files at end place d path here same =
    let read = bound (path_in place (codes "path") d) _ path same in
    let test = begins_with (asn_of_end files at) in
    let taken = passed test (Some read.0) path (field place (codes "path") _ path read.2) in
    let parts = and_parts (nat_le (length path) 255) _ taken.1 in
    let known : asn_of_end files at ≡ option_map (λ (n : Neighbour). n.asn) (neighbour_of files end) =
    ap (λ o. option_map (λ (n : Neighbour). n.asn) (option_and_then (neighbour_of files) o)) here in
    let B : Option ℕ → Type 0 = λ o.
    option_map_or (λ n. option_map_or (λ first. first == n) (slice_get path 0) false) o false ≡ true in
    let numbers = subst (All IsAsNumber) (same_some read.0 path taken.0)
    (path_fit place (codes "path") d read.0 read.1) in
    ((leb-true (length path) 255 parts.0, numbers), begins (neighbour_of files end) path (subst B known parts.1))

-- the end that an announcement names is that of an external session
abbrev IsOuter : List File → ℕ → Type 0
IsOuter files at = (end : SessionEnd) × (slice_get (ends_of files) at ≡ Some end) × (is_outside end.far ≡ true)

end_known : (files : List File) (router : Option ℕ) (address : Option Addr) (at : ℕ) →
    end_named files router address ≡ Some at → IsOuter files at
unfolding place_of
end_known files None address at same = absurd (no_value at same)
end_known files (Some router) None at same = absurd (no_value at same)
end_known files (Some router) (Some a) at same =
    by_ends (ends_of files) (passed (λ k. nat_le k greatest) (position (is_outer_end files router a)
    (ends_of files)) at same).0
  where
    by_ends : (ends : List SessionEnd) → position (is_outer_end files router a) ends ≡ Some at →
        (end : SessionEnd) × (slice_get ends at ≡ Some end) × (is_outside end.far ≡ true)
    by_ends [] none = absurd (no_value at none)
    by_ends (x ∷ rest) is =
        let there = position-Some (is_outer_end files router a) (x ∷ rest) at x is in
        let end = get_or (x ∷ rest) at x in (
          end,
          slice_get-get_or (x ∷ rest) at x there.0,
          (and_parts (is_outside end.far) (is_towards files router a end) there.1).0,
        )

end_fit : (files : List File) (d : Data) (at : ℕ) → end_in files d ≡ Some at → IsOuter files at
unfolding end_in
end_fit files d at same = end_known files (router_in files d) (addr_in (get (codes "address") d)) at same

-- what is read as an announcement is one
announcement_fit : (files : List File) (so_far : List Announcement) (at : List ℕ) (d : Data) (one : Announcement) →
    announcement_at files so_far at d ≡ Ok one → IsAnnouncement files one × (is_later so_far one.end one.len ≡ true)
unfolding announcement_at
announcement_fit files so_far at d one same =
    let end = bound (required at (codes "address") (end_in files d)) _ one same in
    let communities = bound (ascending_in at (codes "communities") d) _ one end.2 in
    let later = is_later so_far end.0 in
    let len = bound (required at (codes "len") (passing later (number_in 32 (get (codes "len") d)))) _ one
    communities.2 in
    let med = bound (required at (codes "med") (number_in greatest (get (codes "med") d))) _ one len.2 in
    let origin = bound (origin_in at d) _ one med.2 in
    let path = bound (sent_path (asn_of_end files end.0) at d) _ one origin.2 in
    let outer = end_fit files d end.0 (field at (codes "address") (end_in files d) end.0 end.1) in
    let short = passed later (number_in 32 (get (codes "len") d)) len.0 (field at (codes "len") _ len.0 len.1) in
    let lists = ascending_fit at (codes "communities") d communities.0 communities.1 in
    let sent = sent_fit files end.0 outer.0 at d path.0 outer.1 path.1 in
    let few = number_small 32 (get (codes "len") d) len.0 short.0 in
    let held : Announcement = record {
      end = end.0;
      len = len.0;
      path = path.0;
      med = med.0;
      origin = origin.0;
      communities = communities.0;
    } in
    let fits : IsAnnouncement files held = record {
      from = (outer.0, outer.1, outer.2, sent.1);
      len = omega (arith, few);
      path = sent.0;
      med = word_small med.0 (number_small greatest (get (codes "med") d) med.0 (field at (codes "med") _ med.0 med.1));
      communities = lists;
    } in
    let P : Announcement → Type 0 = λ x. IsAnnouncement files x × (is_later so_far x.end x.len ≡ true) in
    subst P (same_ok held one path.2) (fits, short.1)

-- later than the last is later than all
earlier_trans : (a b c : Announcement) → IsEarlier a b → IsEarlier b c → IsEarlier a c
earlier_trans a b c (inl p) (inl q) = inl (omega (arith, p, q))
earlier_trans a b c (inl p) (inr q) = inl (omega (arith, p, q.0))
earlier_trans a b c (inr p) (inl q) = inl (omega (arith, p.0, q))
earlier_trans a b c (inr p) (inr q) = inr (omega (arith, p.0, q.0), omega (arith, p.1, q.1))

later_than : (last one : Announcement) →
    (nat_lt last.end one.end || ((last.end == one.end) && nat_lt last.len one.len)) ≡ true → IsEarlier last one
later_than last one test =
    by (or_cases (nat_lt last.end one.end) ((last.end == one.end) && nat_lt last.len one.len) test) where
      by : (nat_lt last.end one.end ≡ true) ⊎ (((last.end == one.end) && nat_lt last.len one.len) ≡ true)
          → IsEarlier last one
      by (inl before) = inl (ltb-true last.end one.end before)
      by (inr both) =
          let parts = and_parts (last.end == one.end) (nat_lt last.len one.len) both in
          inr (eqb-true last.end one.end parts.0, ltb-true last.len one.len parts.1)

after_last : (so_far : List Announcement) (one d : Announcement) → 0 < length so_far →
    is_later so_far one.end one.len ≡ true → IsEarlier (get_or so_far (length so_far - 1) d) one
unfolding is_later
after_last so_far one d some test =
    let last = slice_get-get_or so_far (length so_far - 1) d (omega (arith, some)) in
    let B : Option Announcement → Type 0 = λ o.
    option_map_or (λ (x : Announcement). nat_lt x.end one.end || ((x.end == one.end) && nat_lt x.len one.len)) o true
    ≡ true in
    later_than (get_or so_far (length so_far - 1) d) one (subst B last test)

later_than_all : (so_far : List Announcement) (one : Announcement) → AllPairs IsEarlier so_far →
    is_later so_far one.end one.len ≡ true → (k : ℕ) (d : Announcement) → k < length so_far
    → IsEarlier (get_or so_far k d) one
later_than_all so_far one pairs test k d within = by_place (cases_lt k (length so_far - 1)) where
  last : IsEarlier (get_or so_far (length so_far - 1) d) one
  last = after_last so_far one d (omega (arith, within)) test

  by_place : (k < length so_far - 1) ⊎ (length so_far - 1 ≤ k) → IsEarlier (get_or so_far k d) one
  by_place (inl before) =
      let first = pairs k (length so_far - 1) d before (omega (arith, within)) in
      earlier_trans (get_or so_far k d) (get_or so_far (length so_far - 1) d) one first last
  by_place (inr none) =
      let P : ℕ → Type 0 = λ i. IsEarlier (get_or so_far i d) one in
      let here : length so_far - 1 ≡ k = omega (arith, none, within) in
      subst P here last

-- announcements that are read
abbrev AreAnnounced : List File → List Announcement → Type 0
AreAnnounced files xs = All (IsAnnouncement files) xs × AllPairs IsEarlier xs

announced_kept : (files : List File) (i : ℕ) (so_far : List Announcement) (d : Data) (next : List Announcement) →
    AreAnnounced files so_far → announcement_step files i so_far d ≡ Ok next → AreAnnounced files next
unfolding announcement_step
announced_kept files i so_far d next before same =
    let one = bound (announcement_at files so_far (entry_path (codes "announcements/") i) d) _ next same in
    let fit = announcement_fit files so_far (entry_path (codes "announcements/") i) d one.0 one.1 in
    let P : Announcement → Type 0 = IsAnnouncement files in
    let all = All-append P so_far (one.0 ∷ []) before.0 (All-cons P one.0 [] fit.0 (All-nil P)) in
    let pairs = all_pairs_push IsEarlier so_far one.0 before.1 (later_than_all so_far one.0 before.1 fit.1) in
    subst (AreAnnounced files) (same_ok (so_far ++ one.0 ∷ []) next one.2) (all, pairs)

no_pairs : AllPairs IsEarlier []
no_pairs = λ i j d before within. absurd (omega (arith, before, within))

announcements_fit : (files : List File) (d : Data) (xs : List Announcement) → announcements_in files d ≡ Ok xs
    → AreAnnounced files xs
unfolding announcements_in
announcements_fit files d xs same =
    let members = bound (members_in [] (codes "announcements") d) (in_order (announcement_step files) 0 []) xs same in
    kept (AreAnnounced files) (announcement_step files) (announced_kept files) 0 [] members.0 xs
    (All-nil (IsAnnouncement files), no_pairs) members.2

-- identifiers that are read are addresses
abbrev AreIds : List Addr → Type 0
AreIds ids = All (λ (id : Addr). id.0 < 2 ^ 32) ids

address_small : (found : Option Data) (a : Addr) → addr_in found ≡ Some a → a.0 < 2 ^ 32
address_small found a same =
    let word = chained addr_of (text_in found) a same in
    addr_small word.0 a word.2

peer_fit : (files : List File) (format : ℕ) (wanted : Option SessionEnd) (at : List ℕ) (d : Data) (id : Addr) →
    peer_at files format wanted at d ≡ Ok id → id.0 < 2 ^ 32
unfolding peer_at
peer_fit files format wanted at d id same =
    let end = bound (required at (codes "address") (passing (names_end files d) wanted)) _ id same in
    let known = bound (required at (codes "asn") (cond (asn_fits files format end.0 d) (Some end.0) None)) _ id end.2 in
    address_small (get (codes "id") d) id (field at (codes "id") (addr_in (get (codes "id") d)) id known.2)

id_kept : (files : List File) (format : ℕ) (ends : List SessionEnd) (i : ℕ) (so_far : List Addr) (d : Data)
    (next : List Addr) →
    AreIds so_far → peer_step files format ends i so_far d ≡ Ok next → AreIds next
id_kept files format ends i so_far d next before same =
    let one = bound (peer_at files format (slice_get ends i) (entry_path (codes "peers/") i) d) _ next same in
    let P : Addr → Type 0 = λ id. id.0 < 2 ^ 32 in
    let small = peer_fit files format (slice_get ends i) (entry_path (codes "peers/") i) d one.0 one.1 in
    subst AreIds (same_ok (so_far ++ one.0 ∷ []) next one.2)
    (All-append P so_far (one.0 ∷ []) before (All-cons P one.0 [] small (All-nil P)))

ids_fit : (files : List File) (format : ℕ) (d : Data) (ids : List Addr) → ids_in files format d ≡ Ok ids →
    AreIds ids × (length ids ≡ length (external_ends files))
unfolding ids_in
ids_fit files format d ids same =
    let members = bound (members_in [] (codes "peers") d) _ ids same in
    let all = bound (in_order (peer_step files format (external_ends files)) 0 [] members.0) _ ids members.2 in
    let whole = passed (λ (xs : List Addr). length xs == length (external_ends files)) (Some all.0) ids
    (field (entry_path (codes "peers/") (length all.0)) (codes "address") _ ids all.2) in
    let none : AreIds [] = All-nil (λ (id : Addr). id.0 < 2 ^ 32) in
    let fit = kept AreIds (peer_step files format (external_ends files)) (id_kept files format (external_ends files))
    0 [] members.0 all.0 none all.1 in
    (subst AreIds (same_some all.0 ids whole.0) fit, eqb-true (length ids) (length (external_ends files)) whole.1)

environment_fit : (files : List File) (limits : Limits) (d : Data) (around : Surroundings) →
    surroundings_in files limits d ≡ Ok around →
    IsEnvironment files (record { ids = around.ids; announced = around.announced })
unfolding surroundings_in
environment_fit files limits d around same =
    let announced = bound (announcements_in files d) _ around same in
    let links = bound (failures_in files limits.failures d) _ around announced.2 in
    let format = bound (required [] (codes "format") (format_in d)) _ around links.2 in
    let packet = bound (packet_in limits.packets d) _ around format.2 in
    let ids = bound (ids_in files format.0 d) _ around packet.2 in
    let sent = announcements_fit files d announced.0 announced.1 in
    let named = ids_fit files format.0 d ids.0 ids.1 in
    let P : Surroundings → Type 0 = λ s. IsEnvironment files (record { ids = s.ids; announced = s.announced }) in
    let fits : IsEnvironment files (record { ids = ids.0; announced = announced.0 }) = record {
      ids = named.1;
      fit = named.0;
      announced = sent.0;
      once = sent.1;
    } in
    subst P (same_ok _ around ids.2) fits

-- the environment that is read is one of the network
pub cex_environment : (files : List File) (questions : List Question) (d : Data) (cex : Counterexample) →
    cex_in files questions d ≡ Ok cex → IsEnvironment files cex.env
unfolding cex_in
cex_environment files questions d cex same =
    let around = bound (surroundings_in files (limits questions d) d) _ cex same in
    let place = bound (required [] (codes "question") (asked_place questions d)) _ cex around.2 in
    let slots = bound (slots_in files d) _ cex place.2 in
    let walk = bound (walk_for files (slice_get questions place.0) d) _ cex slots.2 in
    let P : Counterexample → Type 0 = λ c. IsEnvironment files c.env in
    subst P (same_ok _ cex walk.2) (environment_fit files (limits questions d) d around.0 around.1)
