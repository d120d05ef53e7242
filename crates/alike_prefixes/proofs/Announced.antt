-- What external peers announce is moved with the lengths, and the environment stays one.
use Rattle.std.proofs.Common.{◌≡◌, ℕ, suc, Bool, true, false, eqb, List, [], ◌∷◌}
use Rattle.std.proofs.Common.{Option, Some, None, inl, inr, refl, sym, ap, arith, ◌∙◌}
use Rattle.std.specs.Prelude.{◌&&◌, ◌==◌, All, AllPairs, option_map}
use Rattle.std.specs.Prelude.{if◌then◌else◌}
use Rattle.std.specs.List.{cons_option, filter_map, find}
use Rattle.std.proofs.lemmas.Bool.{eqb-true, eq-eqb}
use Rattle.std.proofs.lemmas.List.Elements.{All-cons, All-head, All-nil, All-tail}
use Rattle.std.proofs.lemmas.Option.{same_Some}
use Rattle.mw_text.specs.declared.address.Addr.{Addr}
use Rattle.ios_ast.specs.declared.file.File.{File}
use Rattle.route_record.specs.declared.Announcement.{Announcement}
use Rattle.route_record.specs.declared.Environment.{Environment}
use Rattle.net_parts.specs.Exports.{announced_message}
use Rattle.net_parts.specs.World.{IsAnnouncement, IsEarlier, IsEnvironment}
use Rattle.std.proofs.lemmas.List.Kept.{AllPairs-cons}
use Rattle.alike_prefixes.specs.Moving.{IsMove, moved_announcement, moved_environment}

module _ (files : List File) (d : Addr) (to from : ℕ → Option ℕ) (moves : IsMove files d to from) where
  same_test : (l m k n : ℕ) → to l ≡ Some m → to k ≡ Some n → eqb k l ≡ eqb n m
  same_test l m k n goes went = by (eqb k l) refl (eqb n m) refl where
    by : (a : Bool) → eqb k l ≡ a → (b : Bool) → eqb n m ≡ b → a ≡ b
    by true same true other = refl
    by false same false other = refl
    by true same false other =
        let e : Some n ≡ Some m = sym went ∙ ap to (eqb-true k l same) ∙ goes in
        let f : eqb n m ≡ true = eq-eqb n m (same_Some n m e) in
        cc
    by false same true other =
        let e : Some k ≡ Some l = sym (moves.forth k n went) ∙ ap from (eqb-true n m other) ∙ moves.forth l m goes in
        let f : eqb k l ≡ true = eq-eqb k l (same_Some k l e) in
        cc

  differs : (l m k : ℕ) → to l ≡ Some m → to k ≡ None → eqb k l ≡ false
  differs l m k goes none = by (eqb k l) refl where
    by : (a : Bool) → eqb k l ≡ a → a ≡ false
    by false same = refl
    by true same = let e : None ≡ Some m = sym none ∙ ap to (eqb-true k l same) ∙ goes in absurd cc

  abbrev announced_to : ℕ → ℕ → Announcement → Bool
  announced_to at len a = (a.end == at) && (a.len == len)

  announced_step : (l m at : ℕ) (peer : Addr) (x : Announcement) (xs : List Announcement) → to l ≡ Some m →
      option_map (announced_message peer) (find (announced_to at l) xs)
      ≡ option_map (announced_message peer) (find (announced_to at m) (filter_map (moved_announcement to) xs)) →
      option_map (announced_message peer) (find (announced_to at l) (x ∷ xs))
      ≡ option_map (announced_message peer) (find (announced_to at m) (filter_map (moved_announcement to) (x ∷ xs)))
  announced_step l m at peer x xs goes rest = by (to x.len) refl where
    by_test : (b : Bool) (n : ℕ) →
        option_map (announced_message peer) (if b then Some x else find (announced_to at l) xs)
        ≡ option_map (announced_message peer) (if b then Some (record x { len = n })
        else find (announced_to at m) (filter_map (moved_announcement to) xs))
    by_test true n = refl
    by_test false n = rest

    by : (o : Option ℕ) → to x.len ≡ o →
        option_map (announced_message peer) (if announced_to at l x then Some x else find (announced_to at l) xs)
        ≡ option_map (announced_message peer) (find (announced_to at m)
        (cons_option (option_map (λ len. record x { len = len }) o) (filter_map (moved_announcement to) xs)))
    by None none =
        ap (λ b. option_map (announced_message peer) (if (x.end == at) && b then Some x else find
        (announced_to at l) xs))
        (differs l m x.len goes none) ∙ none_and (x.end == at) ∙ rest
      where
        none_and : (b : Bool) → option_map (announced_message peer) (if b && false then Some x else find
            (announced_to at l) xs)
            ≡ option_map (announced_message peer) (find (announced_to at l) xs)
        none_and true = refl
        none_and false = refl
    by (Some n) went =
        by_test (announced_to at l x) n
        ∙ ap (λ b. option_map (announced_message peer) (if (x.end == at) && b then Some (record x { len = n })
        else find (announced_to at m) (filter_map (moved_announcement to) xs))) (same_test l m x.len n goes went)

  pub announced_moved : (l m at : ℕ) (peer : Addr) (xs : List Announcement) → to l ≡ Some m →
      option_map (announced_message peer) (find (announced_to at l) xs)
      ≡ option_map (announced_message peer) (find (announced_to at m) (filter_map (moved_announcement to) xs))
  announced_moved l m at peer [] goes = refl
  announced_moved l m at peer (x ∷ xs) goes = announced_step l m at peer x xs goes (announced_moved l m at peer xs goes)

  emptied_step : (m at : ℕ) (x : Announcement) (xs : List Announcement) → from m ≡ None →
      find (announced_to at m) (filter_map (moved_announcement to) xs) ≡ None →
      find (announced_to at m) (filter_map (moved_announcement to) (x ∷ xs)) ≡ None
  emptied_step m at x xs none rest = by (to x.len) refl where
    by : (o : Option ℕ) → to x.len ≡ o → find (announced_to at m)
        (cons_option (option_map (λ len. record x { len = len }) o) (filter_map (moved_announcement to) xs)) ≡ None
    by None gone = rest
    by (Some n) went = by_length (eqb n m) refl where
      by_length : (b : Bool) → eqb n m ≡ b →
          (if (x.end == at) && b then Some (record x { len = n }) else find (announced_to at m) (filter_map
          (moved_announcement to) xs))
          ≡ None
      by_length true same =
          let e : None ≡ Some x.len = sym none ∙ ap from (sym (eqb-true n m same))
          ∙ moves.forth x.len n went in absurd cc
      by_length false other = none_and (x.end == at) where
        none_and : (b : Bool) → (if b && false then Some (record x { len = n })
            else find (announced_to at m) (filter_map (moved_announcement to) xs)) ≡ None
        none_and true = rest
        none_and false = rest

  pub announced_emptied : (m at : ℕ) (xs : List Announcement) → from m ≡ None →
      find (announced_to at m) (filter_map (moved_announcement to) xs) ≡ None
  announced_emptied m at [] none = refl
  announced_emptied m at (x ∷ xs) none = emptied_step m at x xs none (announced_emptied m at xs none)

  -- ---- environments

  all_announcements : (xs : List Announcement) → All (IsAnnouncement files) xs →
      All (IsAnnouncement files) (filter_map (moved_announcement to) xs)
  all_announcements [] all = All-nil (IsAnnouncement files)
  all_announcements (a ∷ xs) all = by (to a.len) refl (All-head (IsAnnouncement files) a xs all)
      (all_announcements xs (All-tail (IsAnnouncement files) a xs all))
    where
      by : (o : Option ℕ) → to a.len ≡ o → IsAnnouncement files a →
          All (IsAnnouncement files) (filter_map (moved_announcement to) xs) →
          All (IsAnnouncement files)
          (cons_option (option_map (λ len. record a { len = len }) o) (filter_map (moved_announcement to) xs))
      by None gone fine rest = rest
      by (Some m) goes fine rest = All-cons (IsAnnouncement files) (record a { len = m }) (filter_map
          (moved_announcement to) xs)
          (record {
            from = fine.from;
            len = (moves.inside a.len m goes).1;
            path = fine.path;
            med = fine.med;
            communities = fine.communities;
          }) rest

  earlier_all : (a : Announcement) (m : ℕ) (xs : List Announcement) → to a.len ≡ Some m → All (IsEarlier a) xs →
      All (IsEarlier (record a { len = m })) (filter_map (moved_announcement to) xs)
  earlier_all a m [] goes all = All-nil (IsEarlier (record a { len = m }))
  earlier_all a m (b ∷ xs) goes all = by (to b.len) refl (All-head (IsEarlier a) b xs all)
      (earlier_all a m xs goes (All-tail (IsEarlier a) b xs all))
    where
      by : (o : Option ℕ) → to b.len ≡ o → IsEarlier a b →
          All (IsEarlier (record a { len = m })) (filter_map (moved_announcement to) xs) →
          All (IsEarlier (record a { len = m }))
          (cons_option (option_map (λ len. record b { len = len }) o) (filter_map (moved_announcement to) xs))
      by None gone before rest = rest
      by (Some n) went (inl less) rest = All-cons (IsEarlier (record a { len = m })) (record b { len = n }) _
          (inl less) rest
      by (Some n) went (inr both) rest = All-cons (IsEarlier (record a { len = m })) (record b { len = n }) _
          (inr (both.0, moves.order a.len b.len m n both.1 goes went)) rest

  pairs_kept : (xs : List Announcement) → AllPairs IsEarlier xs → AllPairs IsEarlier (filter_map
      (moved_announcement to) xs)
  pairs_kept [] all = λ i j d before within. absurd (omega (arith, within))
  pairs_kept (a ∷ xs) all = by (to a.len) refl (pairs_kept xs (λ i j d before within.
      all (suc i) (suc j) d (omega (arith, before)) (omega (arith, within))))
    where
      by : (o : Option ℕ) → to a.len ≡ o → AllPairs IsEarlier (filter_map (moved_announcement to) xs) →
          AllPairs IsEarlier
          (cons_option (option_map (λ len. record a { len = len }) o) (filter_map (moved_announcement to) xs))
      by None gone rest = rest
      by (Some m) goes rest = AllPairs-cons IsEarlier (record a { len = m }) (filter_map (moved_announcement to) xs)
          (earlier_all a m xs goes (λ k d within. all 0 (suc k) d (omega arith) (omega (arith, within)))) rest

  pub moved_fits : (environment : Environment) → IsEnvironment files environment →
      IsEnvironment files (moved_environment to environment)
  moved_fits environment fine = record {
    ids = fine.ids;
    fit = fine.fit;
    announced = all_announcements environment.announced fine.announced;
    once = pairs_kept environment.announced fine.once;
  }
