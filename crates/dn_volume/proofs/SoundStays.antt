-- An event keeps a volume sound.
use Rattle.std.proofs.Common.{
  ◌≡◌,
  ◌⊎◌,
  inl,
  inr,
  ⊎_elim,
  ℕ,
  ◌≤◌,
  List,
  [],
  ◌∷◌,
  ◌++◌,
  length,
  refl,
  sym,
  ◌∙◌,
  ap,
  subst,
  arith,
  Option,
  Some,
  length-append,
}
use Rattle.std.specs.Prelude.{Contains, slice_index, if◌then◌else◌, ◌==◌}
use Rattle.std.proofs.lemmas.List.{take-append-le, take_all}
use Rattle.pm_device.specs.Past.{Past, Left, LeftOf, moment}
use Rattle.pm_device.specs.State.{State, Rose, Agree, read_after}
use Rattle.pm_device.specs.Settled.{LeavesNow, MayLeave}
use Rattle.pm_device.specs.Runs.{length-read_after}
use Rattle.name_journal.proofs.Told.{now_may_stay}
use Rattle.dn_model.specs.Table.{Row}
use Rattle.dn_model.specs.Disk.{Disk, DiskSays, rows}
use Rattle.dn_model.specs.Maps.{Mapping}
use Rattle.dn_model.specs.Files.{Files, files}
use Rattle.dn_model.specs.Own.{Print, LivePlace, IsAlone, IsOwn, HasTwin, page_bytes}
use Rattle.dn_model.specs.Image.{StandsFor}
use Rattle.dn_model.specs.History.{Legal}
use Rattle.dn_model.specs.Course.{Base, base_files, WasAlone}
use Rattle.dn_model.specs.LeftBy.{IsOnTheWay}
use Rattle.dn_model.specs.OnCourse.{IsImageOf}
use Rattle.dn_model.specs.declared.op.Entry.{Entry}
use Rattle.law_write.proofs.WriteEvent.{stands_for_read, length-left}
use Rattle.pm_device.proofs.Layers.{leaves_now-stands}
use Rattle.dn_model.specs.declared.op.CountChange.{CountChange}
use Rattle.dn_volume.specs.declared.volume.Parts.{Parts}
use Rattle.dn_volume.specs.Agrees.{StandsFast}
use Rattle.dn_volume.specs.Accounts.{HasPage, WasAloneOn, HadRow, AccountsFor}
use Rattle.dn_volume.specs.Events.{Traces, word_at, word_after}
use Rattle.dn_volume.specs.Sound.{WasLeft}
use Rattle.dn_volume.specs.Laws.{FastDevicesLeave}

-- Traces.
pub after_more : (xs ys : List CountChange) (slot word : ℕ) → word_after (xs ++ ys) slot word ≡ word_after ys slot (word_after xs slot word)
after_more [] ys slot word = refl
after_more (x ∷ xs) ys slot word = after_more xs ys slot (if x.slot == slot then x.word else word)

pub traced_on : (base : Base) (d e : Disk) (b b' : Parts) → Traces d e b b'
    → ((slot : ℕ) → word_at d slot ≡ word_after b.trace.items slot (word_at base.disk slot))
    → (slot : ℕ) → word_at e slot ≡ word_after b'.trace.items slot (word_at base.disk slot)
traced_on base d e b b' traces was slot =
    traces.words slot
    ∙ ap (λ (w : ℕ). word_after traces.more slot w) (was slot)
    ∙ sym (after_more b.trace.items traces.more slot (word_at base.disk slot))
    ∙ ap (λ (xs : List CountChange). word_after xs slot (word_at base.disk slot)) (sym traces.trace)

-- Files on the way.
pub way_on : (old : Files) (history more : List Entry) (f : Files) → IsOnTheWay old history f → IsOnTheWay old (history ++ more) f
way_on old history more f way = record {
  k = way.k;
  some = omega (arith, way.some, length-append history more);
  legal = subst (λ (h : List Entry). Legal old h f) (sym (take-append-le way.k history more way.some)) way.legal;
}

pub way_here : (old : Files) (history : List Entry) (f : Files) → Legal old history f → IsOnTheWay old history f
way_here old history f legal = record {
  k = length history;
  some = omega arith;
  legal = subst (λ (h : List Entry). Legal old h f) (sym (take_all (length history) history (omega arith))) legal;
}

-- what is accounted for since the base, in the history's first part
abbrev pub AloneSince : Print → Base → List Entry → Disk → Type 0
AloneSince print base history d = (ino idx : ℕ) (m : Mapping) → LivePlace d ino idx m → IsAlone m
    → WasAlone base ino idx m.block ⊎ ((f : Files) × IsOnTheWay (base_files base) history f × HasTwin print f (page_bytes d m.block))

abbrev pub PagesSince : Base → List Entry → Disk → Type 0
PagesSince base history d = (row : Row) → Contains (rows d) row → (f : Files) × IsOnTheWay (base_files base) history f × HasPage f
    (page_bytes d row.page)

module _ (print : Print) (base : Base) (history more : List Entry) (d e : Disk) (legal : Legal (base_files base) history (files d))
    (accounts : AccountsFor print d e) where
  pub alone_on : AloneSince print base history d → PagesSince base history d → AloneSince print base (history ++ more) e
  alone_on since pages ino idx m place alone =
      ⊎_elim (λ was. by_old was (since ino idx was.mapping was.place was.alone))
      (λ twin. let page = pages twin.row twin.there in inr (
        page.0,
        way_on (base_files base) history more page.0 page.1,
        record {
          name = page.2.name;
          bytes = page.2.bytes;
          idx = page.2.idx;
          file = page.2.file;
          in_file = page.2.in_file;
          other = λ same. twin.other (sym page.2.same ∙ same);
          same = ap print page.2.same ∙ twin.same;
        },
      ))
      (accounts.alone ino idx m place alone)
    where
      by_old : (was : WasAloneOn d e ino idx m)
          → (WasAlone base ino idx was.mapping.block ⊎ ((f : Files) × IsOnTheWay (base_files base) history f × HasTwin print f
          (page_bytes d was.mapping.block)))
          → WasAlone base ino idx m.block ⊎ ((f : Files) × IsOnTheWay (base_files base) (history ++ more) f × HasTwin print f (page_bytes e m.block))
      by_old was (inl early) = inl (subst (WasAlone base ino idx) was.page_is early)
      by_old was (inr found) = inr (
        found.0,
        way_on (base_files base) history more found.0 found.1,
        subst (HasTwin print found.0) (ap (page_bytes d) was.page_is ∙ sym was.bytes_are) found.2,
      )

  pub pages_on : PagesSince base history d → PagesSince base (history ++ more) e
  pages_on since row has =
      ⊎_elim (λ had. by_old had (since had.was had.there))
      (λ page. (files d, way_on (base_files base) history more (files d) (way_here (base_files base) history (files d) legal), page))
      (accounts.row_pages row has)
    where
      by_old : (had : HadRow d e row) → ((f : Files) × IsOnTheWay (base_files base) history f × HasPage f (page_bytes d had.was.page))
          → (f : Files) × IsOnTheWay (base_files base) (history ++ more) f × HasPage f (page_bytes e row.page)
      by_old had found = (
        found.0,
        way_on (base_files base) history more found.0 found.1,
        subst (HasPage found.0)
            (ap (page_bytes d) had.page_is ∙ sym had.bytes_are) found.2,
      )

-- with the same history
pub alone_since : (print : Print) (base : Base) (history history' : List Entry) (d : Disk) → history' ≡ history → AloneSince print base history d
    → AloneSince print base history' d
alone_since print base history history' d same since = subst (λ (h : List Entry). AloneSince print base h d) (sym same) since

pub pages_since : (base : Base) (history history' : List Entry) (d : Disk) → history' ≡ history → PagesSince base history d
    → PagesSince base history' d
pages_since base history history' d same since = subst (λ (h : List Entry). PagesSince base h d) (sym same) since

-- what the words stand for now may be left now
pub left_now : (s : State) (p : Past) → s.past ≡ Some p → Agree s.now s.past → Left s.past (moment s.past) s.now
left_now s p told agree = subst (λ (o : Option Past). Left o (moment o) s.now) (sym told) here
  where
    agree' : s.now ≡ read_after p.first p.calls
    agree' = subst (Agree s.now) told agree

    size : length s.now ≡ length p.first
    size = ap length agree' ∙ length-read_after p.first p.calls

    here : LeftOf p (length p.calls) s.now
    here = record {
      past = omega arith;
      size = size;
      each = λ a lt. subst (λ (o : Option Past). held o a) told (now_may_stay s a agree (omega (arith, lt, size)));
    }
      where
        held : Option Past → ℕ → Type 0
        held o a = MayLeave (record { now = s.now; past = o; faults = s.faults; spare = s.spare }) a (slice_index s.now a)

pub stands_now : (d : Disk) (b : Parts) (s : State) → StandsFast d b.geometry s → StandsFor s.now d
stands_now d b s fast = stands_for_read d s.now fast.valid fast.stands.reads fast.long

pub was_left_now : (base : Base) (d : Disk) (b : Parts) (s : State) (p : Past) → s.past ≡ Some p → Agree s.now s.past → StandsFast d b.geometry s
    → base.start ≤ moment s.past → WasLeft base s d
was_left_now base d b s p told agree fast begun = record {
  m = moment s.past;
  c = s.now;
  since = begun;
  so_far = omega arith;
  left = left_now s p told agree;
  stands_for = stands_now d b s fast;
}

pub rose_since : (a b c : ℕ) → a ≤ b → Rose b c → Rose a c
rose_since a b c le (inl lt) = inl (omega (arith, le, lt))
rose_since a b c le (inr top) = inr top

-- each image that a stop may leave now stands for the disk
pub stands_left : FastDevicesLeave
stands_left d g s fast agree c left =
    stands_for_read d c fast.valid (leaves_now-stands s (DiskSays d) agree fast.stands c left)
    (length-left s.past s.now (moment s.past) c agree left ∙ fast.long)

-- and is of this program
pub image_now : (print : Print) (d : Disk) (b : Parts) (s : State) → StandsFast d b.geometry s → IsOwn print d
    → Agree s.now s.past → LeavesNow s (IsImageOf print (files d))
image_now print d b s fast own agree c left = record {
  disk = d;
  stands_for = stands_left d b.geometry s fast agree c left;
  own = own;
  same = λ name. refl;
}
