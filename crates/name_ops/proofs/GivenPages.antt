-- Pages become free one after another, and inodes are let go one after another.
use Rattle.std.proofs.Common.{
  ◌≡◌,
  ◌≢◌,
  ◌⊎◌,
  inl,
  inr,
  ⊎_elim,
  ℕ,
  ◌+◌,
  ◌<◌,
  ◌≤◌,
  List,
  length,
  get_or,
  refl,
  sym,
  ◌∙◌,
  ap,
  subst,
  arith,
}
use Rattle.std.specs.Prelude.{slice_get, slice_set, slice_index, Option, Some, None, IfSome, Contains}
use Rattle.std.proofs.lemmas.Bool.{cases_eq, cases_lt}
use Rattle.std.proofs.lemmas.Option.{slice_get_read, slice_get-get_or, slice_get_past}
use Rattle.std.proofs.lemmas.List.{get_or_default, length-set, get_or-set_same, get_or-set_other}
use Rattle.std.proofs.lemmas.List.Elements.{Contains-get_or}
use Rattle.page_alloc.specs.Free.{FreePages, IsInOrder, GivesBack}
use Rattle.file_content.specs.Pages.{AreApart}
use Rattle.dn_volume.specs.declared.flight.Flight.{Flight}
use Rattle.dn_volume.specs.declared.flight.NameChange.{NameChange}
use Rattle.dn_volume.specs.declared.flight.Turn.{Turn}
use Rattle.dn_volume.specs.declared.flight.Turn.TheVariants as kept_turn
use Rattle.dn_volume.specs.declared.volume.InodeState.{InodeState}
use Rattle.name_ops.specs.Landing.{Turned, TurnsInode, LetsGo}
use Rattle.name_ops.specs.Ending.{Gives, IsAmong, SameButHolder, SameButLog, LetsGoOf, GrowsRoot, KeepsPlaces}

some_is : (p q : ℕ) → Some p ≡ Some q → p ≡ q
some_is p q e = cc

-- one page
pub gives_one : (page : Option ℕ) (m : ℕ) (old new : FreePages) → page ≡ Some m → GivesBack m old new → IsInOrder new → Gives (λ p. page ≡ Some p) old
    new
gives_one page m old new is gives order = record {
  pages = gives.pages;
  free = λ p. (to p, from p);
  no_less = omega (arith, gives.count);
  in_order = order;
}
  where
    to : (p : ℕ) → Contains new.free p → Contains old.free p ⊎ (page ≡ Some p)
    to p there = elim (cases_eq p m) [ inl e ↦ inr (is ∙ ap (λ (q : ℕ). Some q) (sym e)) | inr ne ↦ inl ((gives.others p ne).0 there) ]

    from : (p : ℕ) → Contains old.free p ⊎ (page ≡ Some p) → Contains new.free p
    from p (inl there) = elim (cases_eq p m) [ inl e ↦ subst (Contains new.free) (sym e) gives.there | inr ne ↦ (gives.others p ne).1 there ]
    from p (inr e) = subst (Contains new.free) (some_is m p (sym is ∙ e)) gives.there

pub gives_none : (P : ℕ → Type 0) (s : FreePages) → IsInOrder s → ((p : ℕ) → P p → ⊥) → Gives P s s
gives_none P s order none = record {
  pages = refl;
  free = λ p. ((λ there. inl there), (λ h. ⊎_elim (λ there. there) (λ given. absurd (none p given)) h));
  no_less = omega arith;
  in_order = order;
}

pub gives_then : (P Q R : ℕ → Type 0) (old now new : FreePages) → Gives P old now → Gives Q now new → ((p : ℕ) → R p → P p ⊎ Q p)
    → ((p : ℕ) → P p ⊎ Q p → R p) → Gives R old new
gives_then P Q R old now new one two split join = record {
  pages = two.pages ∙ one.pages;
  free = λ p. (
    (λ there. ⊎_elim (λ before. ⊎_elim (λ was. inl was) (λ given. inr (join p (inl given))) ((one.free p).0 before))
        (λ given. inr (join p (inr given))) ((two.free p).0 there)),
    (λ h. ⊎_elim (λ was. (two.free p).1 (inl ((one.free p).1 (inl was))))
        (λ given. ⊎_elim (λ first. (two.free p).1 (inl ((one.free p).1 (inr first)))) (λ second. (two.free p).1 (inr second)) (split p given)) h),
  );
  no_less = omega (arith, one.no_less, two.no_less);
  in_order = two.in_order;
}

-- pages of a list
module _ (pages : List ℕ) (old now : FreePages) where
  pub among_next : (k : ℕ) (new : FreePages) → Gives (IsAmong pages k) old now → Gives (λ p. Some (slice_index pages k) ≡ Some p) now new
      → Gives (IsAmong pages (k + 1)) old new
  among_next k new so_far gives = gives_then (IsAmong pages k) (λ p. Some (slice_index pages k) ≡ Some p) (IsAmong pages (k + 1)) old now new so_far
      gives
      (λ p a. elim (cases_lt a.i k) [
        | inl low ↦ inl (record { i = a.i; below = low; is = a.is })
        | inr high ↦ let same : a.i ≡ k = omega (arith, a.below, high) in inr (ap (λ (i : ℕ). Some (slice_index pages i)) (sym same) ∙ ap
            (λ (q : ℕ). Some q) a.is)
      ])
      (λ p h. ⊎_elim (λ a. record { i = a.i; below = omega (arith, a.below); is = a.is })
      (λ e. record { i = k; below = omega arith; is = some_is (slice_index pages k) p e }) h)

  pub among_all : (k : ℕ) → length pages ≤ k → k ≤ length pages → Gives (IsAmong pages k) old now → Gives (Contains pages) old now
  among_all k most least gives = record {
    pages = gives.pages;
    free = λ p. (
      (λ there. ⊎_elim (λ was. inl was) (λ a. inr (subst (Contains pages) a.is (Contains-get_or pages a.i 0 (omega (arith, a.below, least)))))
          ((gives.free p).0 there)),
      (λ h. (gives.free p).1 (⊎_elim (λ was. inl was)
          (λ has. inr (record { i = has.0; below = omega (arith, has.1, most); is = get_or_default pages has.0 0 p has.1 ∙ has.2 })) h)),
    );
    no_less = gives.no_less;
    in_order = gives.in_order;
  }

  pub among_taken : (k : ℕ) → k < length pages → AreApart pages → ((p : ℕ) → Contains pages p → Contains old.free p → ⊥) → Gives (IsAmong pages k) old
      now → Contains now.free (slice_index pages k) → ⊥
  among_taken k lt apart taken gives there = ⊎_elim (taken (slice_index pages k) (Contains-get_or pages k 0 lt))
      (λ a. let same = apart a.i k (omega (arith, a.below, lt)) lt a.is in omega (arith, same, a.below)) ((gives.free (slice_index pages k)).0 there)

module _ {X : Type 0} where
  pub same_some : (o : Option X) (x y : X) → o ≡ Some x → o ≡ Some y → x ≡ y
  same_some o x y a b = cc

  pub set_here : (xs : List X) (k : ℕ) (x : X) → k < length xs → slice_get (slice_set xs k x) k ≡ Some x
  set_here xs k x lt = slice_get_read (slice_set xs k x) (length (slice_set xs k x)) k x refl (omega (arith, lt, length-set xs k x))
      (sym (get_or-set_same xs k x x lt))

  pub set_other : (xs : List X) (k j : ℕ) (x : X) → j ≢ k → slice_get (slice_set xs k x) j ≡ slice_get xs j
  set_other xs k j x ne = elim (cases_lt j (length xs)) [
    | inl lt ↦
        slice_get-get_or (slice_set xs k x) j x (omega (arith, lt, length-set xs k x)) ∙ ap (λ (y : X). Some y) (get_or-set_other xs k j x x ne) ∙ sym
        (slice_get-get_or xs j x lt)
    | inr past ↦ slice_get_past (slice_set xs k x) j (omega (arith, past, length-set xs k x)) ∙ sym (slice_get_past xs j past)
  ]

same_inode : (n : InodeState) → SameButHolder n n
same_inode n = record { used = refl; size = refl; map = refl; log_pages = refl; round = refl }

pub lets_none : (held : List ℕ) (old : List InodeState) → LetsGoOf (IsAmong held 0) old old
lets_none held old = record {
  all = refl;
  each = λ ino n' at. (n', at, same_inode n', (λ a. let low = a.below in absurd (omega (arith, low))), (λ out. refl));
}

-- one inode more is let go
pub lets_next : (held : List ℕ) (k : ℕ) (old now : List InodeState) (x : InodeState) → slice_index held k < length now
    → x ≡ get_or now (slice_index held k) x → LetsGoOf (IsAmong held k) old now
    → LetsGoOf (IsAmong held (k + 1)) old (slice_set now (slice_index held k) (record x { holder = None }))
lets_next held k old now x lt read so_far = record {
  all = length-set now (slice_index held k) (record x { holder = None }) ∙ so_far.all;
  each = λ ino n' at. by ino n' at (cases_eq ino (slice_index held k));
}
  where
    by : (ino : ℕ) (n' : InodeState) → slice_get (slice_set now (slice_index held k) (record x { holder = None })) ino ≡ Some n'
        → ((ino ≡ slice_index held k) ⊎ (ino ≡ slice_index held k → ⊥)) → (n : InodeState) × (slice_get old ino ≡ Some n) × SameButHolder n n'
        × (IsAmong held (k + 1) ino → n'.holder ≡ None) × ((IsAmong held (k + 1) ino → ⊥) → n'.holder ≡ n.holder)
    by ino n' at (inl same) =
        let here = same_some (slice_get (slice_set now (slice_index held k) (record x { holder = None })) (slice_index held k)) (record x {
          holder = None;
        }) n' (set_here now (slice_index held k) (record x { holder = None }) lt) (ap (slice_get (slice_set now (slice_index held k) (record x {
          holder = None;
        }))) (sym same) ∙ at) in
        let was = so_far.each ino x (ap (slice_get now) same ∙ slice_get_read now (length now) (slice_index held k) x refl lt read) in (
          was.0,
          was.1,
          record {
            used = ap (λ (n : InodeState). n.used) (sym here) ∙ was.2.used;
            size = ap (λ (n : InodeState). n.size) (sym here) ∙ was.2.size;
            map = ap (λ (n : InodeState). n.map) (sym here) ∙ was.2.map;
            log_pages = ap (λ (n : InodeState). n.log_pages) (sym here) ∙ was.2.log_pages;
            round = ap (λ (n : InodeState). n.round) (sym here) ∙ was.2.round;
          },
          (λ a. ap (λ (n : InodeState). n.holder) (sym here)),
          (λ out. absurd (out (record { i = k; below = omega arith; is = sym same }))),
        )
    by ino n' at (inr other) =
        let was = so_far.each ino n' (sym (set_other now (slice_index held k) ino (record x { holder = None }) other) ∙ at) in (
          was.0,
          was.1,
          was.2,
          (λ a. was.3 (elim (cases_lt a.i k) [
            | inl low ↦ record { i = a.i; below = low; is = a.is }
            | inr high ↦ absurd (let last : a.i ≡ k = omega (arith, a.below, high) in other (sym a.is ∙ ap (slice_index held) last))
          ])),
          (λ out. was.4 (λ a. out (record { i = a.i; below = omega (arith, a.below); is = a.is }))),
        )

-- all of them are
pub lets_all : (held : List ℕ) (k : ℕ) (old now : List InodeState) → length held ≤ k → k ≤ length held → LetsGoOf (IsAmong held k) old now
    → LetsGoOf (Contains held) old now
lets_all held k old now most least so_far = record {
  all = so_far.all;
  each = λ ino n' at.
      let was = so_far.each ino n' at in (
        was.0,
        was.1,
        was.2,
        (λ has. was.3 (record { i = has.0; below = omega (arith, has.1, most); is = get_or_default held has.0 0 ino has.1 ∙ has.2 })),
        (λ out. was.4 (λ a. out (subst (Contains held) a.is (Contains-get_or held a.i 0 (omega (arith, a.below, least)))))),
      );
}

-- what holds of a value, if there is one, holds of it
pub if_some : {X : Type 0} (P : X → Type 0) (o : Option X) → ((x : X) → o ≡ Some x → P x) → IfSome o P
if_some P None holds = tt
if_some P (Some x) holds = holds x refl

-- the root's log gets pages
pub grown_root : (more : ℕ) (old : List InodeState) (x y : InodeState) → 0 < length old → x ≡ get_or old 0 x
    → y ≡ record x { log_pages = x.log_pages + more } → GrowsRoot more old (slice_set old 0 y)
grown_root more old x y lt read is = record { all = length-set old 0 y; each = λ ino n' at. by ino n' at (cases_eq ino 0) }
  where
    by : (ino : ℕ) (n' : InodeState) → slice_get (slice_set old 0 y) ino ≡ Some n' → ((ino ≡ 0) ⊎ (ino ≡ 0 → ⊥))
        → (n : InodeState) × (slice_get old ino ≡ Some n) × SameButLog n n' × (ino ≡ 0 → n'.log_pages ≡ n.log_pages + more)
        × ((ino ≡ 0 → ⊥) → n'.log_pages ≡ n.log_pages)
    by ino n' at (inl same) =
        let here : n' ≡ record x { log_pages = x.log_pages + more } =
        sym (same_some (slice_get (slice_set old 0 y) 0) y n' (set_here old 0 y lt) (ap (slice_get (slice_set old 0 y)) (sym same) ∙ at)) ∙ is in (
          x,
          ap (slice_get old) same ∙ slice_get_read old (length old) 0 x refl lt read,
          record {
            used = ap (λ (n : InodeState). n.used) here;
            size = ap (λ (n : InodeState). n.size) here;
            map = ap (λ (n : InodeState). n.map) here;
            round = ap (λ (n : InodeState). n.round) here;
            holder = ap (λ (n : InodeState). n.holder) here;
          },
          (λ root. ap (λ (n : InodeState). n.log_pages) here),
          (λ other. absurd (other same)),
        )
    by ino n' at (inr other) = (
      n',
      sym (set_other old 0 ino y other) ∙ at,
      record { used = refl; size = refl; map = refl; round = refl; holder = refl },
      (λ root. absurd (other root)),
      (λ out. refl),
    )

-- the root that is kept once another inode turned, and some were let go, has the pages of before
pub root_pages : (node : ℕ) (gone : ℕ → Type 0) (old new : List InodeState) (y : InodeState) → 1 ≤ node → LetsGoOf gone (slice_set old node y) new
    → (n : InodeState) → slice_get new 0 ≡ Some n → (m : InodeState) × (slice_get old 0 ≡ Some m) × (n.log_pages ≡ m.log_pages)
root_pages node gone old new y file lets n at =
    let was = lets.each 0 n at in
    (was.0, sym (set_other old node 0 y (λ same. omega (arith, file, same))) ∙ was.1, was.2.log_pages)

-- it turned still, where its use, its size and its log's pages are the same
turned_same : (c : NameChange) (x y n' : InodeState) → Turned c.turn x y → n'.used ≡ y.used → n'.size ≡ y.size → n'.log_pages ≡ y.log_pages
    → Turned c.turn x n'
turned_same c x y n' turns used size pages = by c.turn turns
  where
    by : (k : Turn) → Turned k x y → Turned k x n'
    by kept_turn.Stays so = (used ∙ so.0, size ∙ so.1, pages ∙ so.2)
    by kept_turn.Comes so = (used ∙ so.0, size ∙ so.1, pages ∙ so.2)
    by kept_turn.Goes so = (used ∙ so.0, size ∙ so.1, pages ∙ so.2)

same_more : (x y : ℕ) → x ≡ y → x ≡ y + 0
same_more x y same = omega (arith, same)

-- an inode turned, and then those that the operation held were let go
pub turned_and_gone : (f : Flight) (c : NameChange) (old new : List InodeState) (x y : InodeState) → 1 ≤ c.node → c.node < length old
    → x ≡ get_or old c.node x
    → Turned c.turn x y → KeepsPlaces x y → LetsGoOf (Contains f.held.items) (slice_set old c.node y) new → (ino : ℕ) (n' : InodeState)
    → slice_get new ino ≡ Some n' → (n : InodeState) × (slice_get old ino ≡ Some n) × TurnsInode c 0 ino n n' × LetsGo f ino n n'
turned_and_gone f c old new x y file lt read turns keeps lets ino n' at = by (cases_eq ino c.node)
  where
    was : (n : InodeState) × (slice_get (slice_set old c.node y) ino ≡ Some n) × SameButHolder n n'
        × (Contains f.held.items ino → n'.holder ≡ None) × ((Contains f.held.items ino → ⊥) → n'.holder ≡ n.holder)
    was = lets.each ino n' at

    by : ((ino ≡ c.node) ⊎ (ino ≡ c.node → ⊥)) → (n : InodeState) × (slice_get old ino ≡ Some n) × TurnsInode c 0 ino n n' × LetsGo f ino n n'
    by (inl same) =
        let here : y ≡ was.0 = same_some (slice_get (slice_set old c.node y) c.node) y was.0 (set_here old c.node y lt) (ap (slice_get (slice_set old
        c.node y)) (sym same) ∙ was.1) in (
          x,
          ap (slice_get old) same ∙ slice_get_read old (length old) c.node x refl lt read,
          record {
            map = was.2.map ∙ ap (λ (n : InodeState). n.map) (sym here) ∙ keeps.map;
            round = was.2.round ∙ ap (λ (n : InodeState). n.round) (sym here) ∙ keeps.round;
            here = λ is. turned_same c x y n' turns (was.2.used ∙ ap (λ (n : InodeState). n.used) (sym here)) (was.2.size ∙ ap (λ (n : InodeState).
                n.size) (sym here)) (was.2.log_pages ∙ ap (λ (n : InodeState). n.log_pages) (sym here));
            elsewhere = λ other. absurd (other same);
            root = λ none. absurd (omega (arith, none, same, file));
            log = λ some other. absurd (other same);
          },
          record {
            freed = was.3;
            kept = λ out. was.4 out ∙ ap (λ (n : InodeState). n.holder) (sym here) ∙ keeps.holder;
          },
        )
    by (inr other) = (
      was.0,
      sym (set_other old c.node ino y other) ∙ was.1,
      record {
        map = was.2.map;
        round = was.2.round;
        here = λ is. absurd (other is);
        elsewhere = λ out. (was.2.used, was.2.size);
        root = λ none. same_more n'.log_pages was.0.log_pages was.2.log_pages;
        log = λ some out. was.2.log_pages;
      },
      record { freed = was.3; kept = was.4 },
    )

more_after : (x y z more : ℕ) → x ≡ y + more → y ≡ z + 0 → x ≡ z + more
more_after x y z more one same = omega (arith, one, same)

-- and then the root's log got pages
pub grown_too : (f : Flight) (c : NameChange) (more : ℕ) (old mid new : List InodeState) → 1 ≤ c.node
    → ((ino : ℕ) (m : InodeState) → slice_get mid ino ≡ Some m
    → (n : InodeState) × (slice_get old ino ≡ Some n) × TurnsInode c 0 ino n m × LetsGo f ino n m)
    → GrowsRoot more mid new → (ino : ℕ) (n' : InodeState) → slice_get new ino ≡ Some n'
    → (n : InodeState) × (slice_get old ino ≡ Some n) × TurnsInode c more ino n n' × LetsGo f ino n n'
grown_too f c more old mid new file each grows ino n' at =
    let g = grows.each ino n' at in
    let was = each ino g.0 g.1 in (
      was.0,
      was.1,
      record {
        map = g.2.map ∙ was.2.map;
        round = g.2.round ∙ was.2.round;
        here = λ is. turned_same c was.0 g.0 n' (was.2.here is) g.2.used g.2.size (g.4 (λ none. omega (arith, none, is, file)));
        elsewhere = λ other. let so = was.2.elsewhere other in (g.2.used ∙ so.0, g.2.size ∙ so.1);
        root = λ none. more_after n'.log_pages g.0.log_pages was.0.log_pages more (g.3 none) (was.2.root none);
        log = λ some other. g.4 some ∙ was.2.log some other;
      },
      record { freed = λ has. g.2.holder ∙ was.3.freed has; kept = λ out. g.2.holder ∙ was.3.kept out },
    )
