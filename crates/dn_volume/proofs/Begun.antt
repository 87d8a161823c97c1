-- A begin keeps a volume sound.
use Rattle.std.proofs.Common.{
  ◌≡◌,
  ◌≢◌,
  ◌⊎◌,
  inl,
  inr,
  ⊎_elim,
  ℕ,
  ◌+◌,
  ◌-◌,
  ◌≤◌,
  Bool,
  true,
  false,
  List,
  [],
  ◌∷◌,
  ◌++◌,
  length,
  refl,
  sym,
  ◌∙◌,
  ap,
  subst,
  arith,
  Option,
  Some,
  None,
}
use Rattle.std.specs.Prelude.{drop, Contains, if◌then◌else◌}
use Rattle.std.proofs.lemmas.List.{append-nil}
use Rattle.std.proofs.Math.Seq.{drop-append_seam}
use Rattle.pm_device.specs.Past.{Past, Left, moment}
use Rattle.pm_device.specs.State.{State, IsSame, Agree}
use Rattle.pm_device.specs.Settled.{Extends}
use Rattle.pm_device.proofs.Moments.{extends_same}
use Rattle.log_entry.specs.Name.{same_name}
use Rattle.log_entry.proofs.SameName.{same_name-true}
use Rattle.dn_model.specs.Disk.{Disk}
use Rattle.dn_model.specs.Files.{Files, files, IsSameFiles}
use Rattle.dn_model.specs.Own.{Print}
use Rattle.dn_model.specs.Apply.{IsGranted, Grants, Replies, grants, bad_name, missed, too_long, too_big, after_op, miss}
use Rattle.dn_model.specs.History.{Step, done, refused, no_inode, no_space, Legal, needed, IsShortOfSpace, IsShortOfInodes}
use Rattle.dn_model.specs.Course.{Base, base_files}
use Rattle.dn_model.specs.OnCourse.{IsOnCourse}
use Rattle.dn_model.specs.declared.op.Op.{Op}
use Rattle.dn_model.specs.declared.op.Op.TheVariants.{Create, Write, Read, Cut, Remove, Rename, Size, List as ListAll}
use Rattle.dn_model.specs.declared.op.Entry.{Entry}
use Rattle.dn_model.specs.declared.op.Reply.{Reply}
use Rattle.dn_model.specs.declared.op.Reply.TheVariants.{Done, Refused}
use Rattle.dn_model.specs.declared.op.Refusal.{Refusal}
use Rattle.dn_model.specs.declared.op.Refusal.TheVariants.{BadName, NotFound, Exists, TooLong, TooBig, NoInode, NoSpace}
use Rattle.law_unique.specs.Operations.{MeetsGrant, MeetsRefusal}
use Rattle.law_unique.proofs.Answered.{granted_or_refused}
use Rattle.law_course.proofs.Course.{legal-told}
use Rattle.law_unique.proofs.Listings.{none_listed, cons_cases}
use Rattle.dn_volume.specs.declared.flight.Flight.{Flight}
use Rattle.dn_volume.specs.declared.outcome.Outcome.{Outcome}
use Rattle.dn_volume.specs.declared.outcome.Outcome.TheVariants as out
use Rattle.dn_model.specs.declared.op.CountChange.{CountChange}
use Rattle.dn_volume.specs.declared.volume.Parts.{Parts}
use Rattle.dn_volume.specs.declared.volume.Volume.{Volume}
use Rattle.dn_volume.specs.Parties.{Flies, flight_at}
use Rattle.dn_volume.specs.Agrees.{IsVolume}
use Rattle.dn_volume.specs.Begins.{
  IsAtOnce,
  IsUntouched,
  HasBegun,
  IsAnswerOf,
  of_files,
  no_inode as answers_no_inode,
  no_space as answers_no_space,
  AreFlying,
  AnswersAtOnce,
  Begins,
}
use Rattle.dn_volume.specs.Events.{word_at, word_after}
use Rattle.dn_volume.specs.Sound.{WasLeft, IsLater, AreLater, AreShort, IsSound, Sound, is_sound}
use Rattle.dn_volume.specs.Laws.{WantsAreShort, InodesAreShort, BeginsStaySound}
use Rattle.dn_volume.proofs.Kept.{ops_same}
use Rattle.dn_volume.proofs.Courses.{same_device, one_entry}
use Rattle.dn_volume.proofs.Shorts.{stays_short, goes_on_later, begun_later, begins_short, at_once_later, wants_short}
use Rattle.dn_volume.proofs.SoundStays.{AloneSince, PagesSince, way_on, was_left_now}
use Rattle.dn_volume.proofs.Wants.{inodes_are_short}
use Rattle.dn_volume.proofs.Lacks.{wants_are_short}
use Rattle.dn_volume.proofs.Soundness.{sound_disk, told_short}

-- An operation that is answered at once changes no file.
replaced_same : (f : Files) (name other : List ℕ) (b : Bool) → same_name name other ≡ b → (if b then f name else f other) ≡ f other
replaced_same f name other true is = ap f (same_name-true name other is)
replaced_same f name other false is = refl

renamed_same : (f : Files) (name other : List ℕ) (b c : Bool) → same_name name other ≡ b → c ≡ b
    → (if b then f name else (if c then None else f other)) ≡ f other
renamed_same f name other true c is also = ap f (same_name-true name other is)
renamed_same f name other false true is also = absurd (cc also)
renamed_same f name other false false is also = refl

at_once_same : (f : Files) (op : Op) → IsAtOnce op → IsSameFiles f (after_op f op)
at_once_same f (Create name) once other = absurd once
at_once_same f (Write name at []) once other = refl
at_once_same f (Write name at (b ∷ text)) once other = absurd (cc once)
at_once_same f (Read name at count) once other = refl
at_once_same f (Cut name to) once other = absurd once
at_once_same f (Remove name) once other = absurd once
at_once_same f (Rename from to) once other =
    subst (λ (n : List ℕ). f other ≡ after_op f (Rename from n) other) once
    (sym (renamed_same f from other (same_name from other) (same_name from other) refl refl))
at_once_same f (Size name) once other = refl
at_once_same f ListAll once other = refl

-- A reply that files alone decide is no want.
abbrev is_want : Refusal → Bool
is_want BadName = false
is_want NotFound = false
is_want Exists = false
is_want TooLong = false
is_want TooBig = false
is_want NoInode = true
is_want (NoSpace needed free) = true

miss_no_want : (op : Op) → is_want (miss op) ≡ false
miss_no_want (Create name) = refl
miss_no_want (Write name at bytes) = refl
miss_no_want (Read name at count) = refl
miss_no_want (Cut name size) = refl
miss_no_want (Remove name) = refl
miss_no_want (Rename from to) = refl
miss_no_want (Size name) = refl
miss_no_want ListAll = refl

no_want : (f : Files) (op : Op) (reply : Reply) → Replies f op reply → (why : Refusal) → reply ≡ Refused why → is_want why ≡ true → ⊥
no_want f op reply replies why is wants = by replies (granted_or_refused f op reply replies)
  where
    other : (w : Refusal) → reply ≡ Refused w → is_want w ≡ false → ⊥
    other w said none = let same : Refused w ≡ Refused why = sym said ∙ is in let same_why : w ≡ why = cc same in clash (is_want why)
        (ap is_want (sym same_why) ∙ none) wants
      where
        clash : (b : Bool) → b ≡ false → b ≡ true → ⊥
        clash b low high = cc

    by : Replies f op reply → MeetsGrant f op reply ⊎ MeetsRefusal f op reply → ⊥
    by (grants l fi sh ft x) (inl m) = m.no_refusal (why, is)
    by (grants l fi sh ft x) (inr m) = m.not_granted (record { legal = l; finds = fi; short = sh; fits = ft })
    by (bad_name bad e) m = other BadName e refl
    by (missed l bad e) m = other (miss op) e (miss_no_want op)
    by (too_long l fi bad e) m = other TooLong e refl
    by (too_big l fi sh bad e) m = other TooBig e refl

-- its step
at_once_step : (f : Files) (op : Op) (reply : Reply) → Replies f op reply → (IsGranted f op → IsAtOnce op) → Step f op reply f
at_once_step f op reply replies once = ⊎_elim (λ m. done m.granted m.as_granted (at_once_same f op (once m.granted)))
    (λ m. refused m.not_granted replies (λ name. refl)) (granted_or_refused f op reply replies)

-- what lasts answers Done, if nothing stands in its way
lasting_done : (f : Files) (op : Op) → (IsAtOnce op → ⊥) → Grants f op Done
lasting_done f (Create name) lasts = refl
lasting_done f (Write name at text) lasts = refl
lasting_done f (Read name at count) lasts = absurd (lasts tt)
lasting_done f (Cut name to) lasts = refl
lasting_done f (Remove name) lasts = refl
lasting_done f (Rename from to) lasts = refl
lasting_done f (Size name) lasts = absurd (lasts tt)
lasting_done f ListAll lasts = absurd (lasts tt)

answer_step : (d : Disk) (b : Parts) (op : Op) (reply : Reply) → IsAnswerOf d b op reply → Step (files d) op reply (files d)
answer_step d b op reply (of_files _ replies once) = at_once_step (files d) op reply replies once
answer_step d b op _ (answers_no_inode it none lacks) = no_inode it.granted (lasting_done (files d) op it.lasts) refl (λ name. refl)
answer_step d b op _ (answers_no_space it none inode lacks) =
    no_space (needed d op) (length b.free.free) it.granted (lasting_done (files d) op it.lasts) refl (λ name. refl)

-- what the others have in flight is known of their scripts behind the last entry
flying_later : (b b' : Parts) (who : ℕ) (entry : Entry) (scripts : List (List Op)) → b'.history.items ≡ b.history.items ++ entry ∷ []
    → entry.who ≡ who → b'.flights.items ≡ b.flights.items
    → AreFlying b who scripts → AreLater b' (length b.history.items) who scripts
flying_later b b' who entry scripts more entry_who same are = record {
  clients = are.clients;
  script = λ i ops is op. (
    λ has. let told = (are.script i ops is op).0 has in
        (told.0, record { why = inr (told.1, record { client = told.2.client; is = ap (λ fs. flight_at fs (i + 1 - 1)) same ∙ told.2.is }, told.3) }),
    λ told. let found = flying (i + 1) op told.0 told.1 in (are.script i ops is op).1 (told.0, found.0, found.1, found.2),
  );
}
  where
    last_who : (e : Entry) → Contains (drop (length b.history.items) b'.history.items) e → e.who ≡ who
    last_who e has =
        let in_one : Contains (entry ∷ []) e = subst (λ (h : List Entry). Contains h e) (ap (drop (length b.history.items)) more ∙ drop-append_seam
        b.history.items (entry ∷ [])) has in
        ⊎_elim (λ is. ap (λ (x : Entry). x.who) (sym is) ∙ entry_who) (λ none. absurd (none_listed e none)) (cons_cases entry e [] in_one)

    flying : (q : ℕ) (op : Op) → q ≢ who → IsLater b' (length b.history.items) q op → (f : Flight) × Flies b q f × (f.op ≡ op)
    flying q op other is = ⊎_elim (λ e. absurd (other (sym e.2 ∙ last_who e.0 e.1)))
        (λ f. (f.0, record { client = f.1.client; is = ap (λ fs. flight_at fs (q - 1)) (sym same) ∙ f.1.is }, f.2)) is.why

module _ {D F : Type 0} (state : D → State) (print : Print) (base : Base) (v v' : Volume D F) (d : Disk)
    (sound : IsSound print base d v.parts (state v.device))
    (device : IsSame (state v.device) (state v'.device)) (trace_same : v'.parts.trace.items ≡ v.parts.trace.items) where
  extends : Extends (state v.device).past (state v'.device).past
  extends = subst (λ (o : Option Past). Extends (state v.device).past o) (sym device.past) (extends_same (state v.device).past)

  -- the device stays, and so does the disk
  same_then : (more : List Entry) → v'.parts.history.items ≡ v.parts.history.items ++ more
      → IsOnCourse print (base_files base) base.start (v.parts.history.items ++ more) (files d) (state v'.device)
      → ((p : Past) → (state v'.device).past ≡ Some p → AreShort base v'.parts (state v'.device)) → IsSound print base d v'.parts (state v'.device)
  same_then more same on short = record {
    own = sound.own;
    legal = subst (λ (h : List Entry). Legal (base_files base) h (files d)) (sym same) (legal-told print (base_files base) base.start
        (v.parts.history.items ++ more) (files d) (state v'.device) on);
    course = subst (λ (h : List Entry). IsOnCourse print (base_files base) base.start h (files d) (state v'.device)) (sym same) on;
    traced = λ slot. sound.traced slot ∙ ap (λ (xs : List CountChange). word_after xs slot (word_at base.disk slot)) (sym trace_same);
    short = short;
    alone = subst (λ (h : List Entry). AloneSince print base h d) (sym same) longer_alone;
    row_pages = subst (λ (h : List Entry). PagesSince base h d) (sym same) longer_pages;
    begun = on.begun;
    faults = omega (arith, sound.faults, device.faults);
  }
    where
      longer_alone : AloneSince print base (v.parts.history.items ++ more) d
      longer_alone ino idx m place alone =
          ⊎_elim (λ early. inl early) (λ found. inr (found.0, way_on (base_files base) v.parts.history.items more found.0 found.1, found.2))
          (sound.alone ino idx m place alone)

      longer_pages : PagesSince base (v.parts.history.items ++ more) d
      longer_pages row has = let found = sound.row_pages row has in (
        found.0,
        way_on (base_files base) v.parts.history.items more found.0 found.1,
        found.2,
      )

  same_history : v'.parts.history.items ≡ v.parts.history.items → (AreShort base v.parts (state v.device) → AreShort base v'.parts (state v'.device))
      → IsSound print base d v'.parts (state v'.device)
  same_history same short =
      same_then [] (same ∙ sym (append-nil v.parts.history.items))
      (subst (λ (h : List Entry). IsOnCourse print (base_files base) base.start h (files d) (state v'.device))
      (sym (append-nil v.parts.history.items))
      (same_device print base v.parts.history.items (files d) (state v.device) (state v'.device) sound.course device))
      (told_short base v.parts v'.parts (state v.device) (state v'.device) extends sound.short short)

  untouched : IsUntouched state v v' d → IsSound print base d v'.parts (state v'.device)
  untouched u = same_history u.history (λ short.
      stays_short base v.parts v'.parts (state v.device) (state v'.device) extends short u.history
      (λ k few. goes_on_later v.parts v'.parts k u.history (ops_same v.parts v'.parts u.same.flights)))

  begun : (who : ℕ) (op : Op) (left : ℕ) → 1 ≤ who → HasBegun state who op left v v' d → IsSound print base d v'.parts (state v'.device)
  begun who op left some h =
      same_history h.history (λ short. begins_short base v.parts v'.parts (state v.device) (state v'.device) extends short who op some h.history
      (λ k few. begun_later v.parts v'.parts k who op h.history h.flight h.opens.op_is some h.opens.replaces))

  module _ (who : ℕ) (op : Op) (reply : Reply) (some : 1 ≤ who) (agree : Agree (state v.device).now (state v.device).past) (wants : WantsAreShort)
      (inodes : InodesAreShort)
      (volume : IsVolume d v.parts (state v.device)) (a : AnswersAtOnce state who op reply v v' d) where
    step : Step (files d) a.entry.op a.entry.reply (files d)
    step = subst (λ (o : Op). Step (files d) o a.entry.reply (files d)) (sym a.op_is) (subst (λ (r : Reply). Step (files d) op r (files d))
        (sym a.reply_is) (answer_step d v.parts op reply a.why))

    now_left : (p : Past) → (state v'.device).past ≡ Some p → WasLeft base (state v'.device) d
    now_left p told = later_left (was_left_now base d v.parts (state v.device) p (sym device.past ∙ told) agree volume.fast sound.begun)
      where
        later_left : WasLeft base (state v.device) d → WasLeft base (state v'.device) d
        later_left was = record {
          m = was.m;
          c = was.c;
          since = was.since;
          so_far = subst (λ (o : Option Past). was.m ≤ moment o) (sym device.past) was.so_far;
          left = subst (λ (o : Option Past). Left o was.m was.c) (sym device.past) was.left;
          stands_for = was.stands_for;
        }

    at_once : IsSound print base d v'.parts (state v'.device)
    at_once =
        same_then (a.entry ∷ []) a.history (one_entry print base v.parts.history.items (files d) a.entry (state v.device) (state v'.device)
        sound.course device step)
        (λ p told. told_short base v.parts v'.parts (state v.device) (state v'.device) extends sound.short
        (λ short. wants_short base v.parts v'.parts (state v.device) (state v'.device) extends short a.entry a.history op
        (omega (arith, some, a.who_is)) a.op_is
        (λ k few. at_once_later v.parts v'.parts k a.entry.who a.entry few a.history refl op a.op_is a.same.flights)
        (λ needed free is. by_space p told needed free reply a.why (sym a.reply_is ∙ is))
        (λ is. by_inode p told reply a.why (sym a.reply_is ∙ is))) p told)
      where
        by_space : (p : Past) → (state v'.device).past ≡ Some p → (needs free : ℕ) (r : Reply) → IsAnswerOf d v.parts op r
            → r ≡ Refused (NoSpace needs free)
            → (e : Disk) × (scripts : List (List Op)) × WasLeft base (state v'.device) e × AreLater v'.parts (length v.parts.history.items)
            a.entry.who scripts × IsShortOfSpace e scripts a.entry.op needs free
        by_space p told needs free r (of_files _ replies once) is = absurd (no_want (files d) op r replies (NoSpace needs free) is refl)
        by_space p told needs free _ (answers_no_inode it none lacks) is = absurd (cc is)
        by_space p told needs free _ (answers_no_space it none inode lacks) is =
            let w = wants d v.parts (state v.device) who op some volume a.idle none lacks in
            let same_needs : needed d op ≡ needs = cc is in
            let same_free : length v.parts.free.free ≡ free = cc is in (
              d,
              w.0,
              now_left p told,
              subst (λ (n : ℕ). AreLater v'.parts (length v.parts.history.items) n w.0) (sym a.who_is) (flying_later v.parts v'.parts who a.entry w.0
                  a.history a.who_is a.same.flights w.1),
              subst (λ (o : Op). IsShortOfSpace d w.0 o needs free) (sym a.op_is)
                  (subst (λ (n : ℕ). IsShortOfSpace d w.0 op n free) same_needs (subst (λ (n : ℕ). IsShortOfSpace d w.0 op (needed d op) n) same_free
                  w.2)),
            )

        by_inode : (p : Past) → (state v'.device).past ≡ Some p → (r : Reply) → IsAnswerOf d v.parts op r → r ≡ Refused NoInode
            → (e : Disk) × WasLeft base (state v'.device) e × IsShortOfInodes e a.entry.op
        by_inode p told r (of_files _ replies once) is = absurd (no_want (files d) op r replies NoInode is refl)
        by_inode p told _ (answers_no_inode it none lacks) is =
            (d, now_left p told, subst (IsShortOfInodes d) (sym a.op_is) (inodes d v.parts (state v.device) op volume none lacks))
        by_inode p told _ (answers_no_space it none inode lacks) is = absurd (cc is)

pub begins_stay_sound : {D F : Type 0} (state : D → State) → BeginsStaySound D F state
begins_stay_sound state agree print base who op v v' outcome some running sound begins =
    let was = sound_disk state print base v running sound in by outcome was.0 was.1 was.2 (begins was.0 was.1)
  where
    quiet : (d : Disk) → IsSound print base d v.parts (state v.device) → IsUntouched state v v' d → Sound state print base v'
    quiet d s u = is_sound d u.volume (untouched state print base v v' d s u.device u.same.work.trace u)

    by : (o : Outcome) → (d : Disk) → IsVolume d v.parts (state v.device) → IsSound print base d v.parts (state v.device)
        → Begins state who op v v' d o → Sound state print base v'
    by (out.Running left) d volume s h = is_sound d h.volume (begun state print base v v' d s h.device h.opens.same.work.trace who op left some h)
    by (out.Done reply) d volume s a = is_sound d a.volume (at_once state print base v v' d s a.device a.same.work.trace who op reply some
        (agree v.device) wants_are_short inodes_are_short volume a)
    by (out.Busy holder) d volume s b = quiet d s b.0
    by (out.Released waiting) d volume s b = quiet d s b.0
    by out.Idle d volume s b = absurd b
    by out.NotYours d volume s b = absurd b
    by out.NoMemory d volume s b = quiet d s b.0
    by out.Stopped d volume s b = absurd b

-- so does what changes nothing but the room that is kept
pub untouched_stays_sound : {D F : Type 0} (state : D → State) (print : Print) (base : Base) (v v' : Volume D F) → v.parts.stopped ≡ false
    → Sound state print base v → ((d : Disk) → IsVolume d v.parts (state v.device) → IsUntouched state v v' d) → Sound state print base v'
untouched_stays_sound state print base v v' running sound un =
    let was = sound_disk state print base v running sound in
    let u = un was.0 was.1 in
    is_sound was.0 u.volume (untouched state print base v v' was.0 was.2 u.device u.same.work.trace u)
