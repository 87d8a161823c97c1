-- A volume that keeps to a base tells a front of each script, or all of them.
use Rattle.std.proofs.Common.{◌≡◌, ◌≢◌, ◌⊎◌, inl, inr, ⊎_elim, ℕ, zero, suc, ◌+◌, Bool, true, false, List, [], ◌∷◌, length, take, drop, refl, sym, ◌∙◌, ap, subst, arith}
use Rattle.std.specs.Prelude.{Option, Some, None, Contains, if◌then◌else◌, ◌==◌}
use Rattle.std.proofs.lemmas.Bool.{eq-eqb}
use Rattle.std.proofs.lemmas.List.{append-nil}
use Rattle.std.proofs.lemmas.List.Elements.{Contains-append_left}
use Rattle.std.proofs.lemmas.List.Kept.{AllPairs-from_increasing}
use Rattle.pm_device.specs.Past.{Past, moment}
use Rattle.pm_device.specs.State.{State}
use Rattle.fact_scan.proofs.Listed.{listed}
use Rattle.law_unique.proofs.Answered.{same_files}
use Rattle.law_unique.proofs.Listings.{here, later, none_listed, cons_cases}
use Rattle.dn_model.specs.Disk.{Disk}
use Rattle.dn_model.specs.Files.{Files, files, IsSameFiles}
use Rattle.dn_model.specs.Own.{Print}
use Rattle.dn_model.specs.History.{Legal, IsShortOfSpace}
use Rattle.dn_model.specs.Course.{Course, WasAlone}
use Rattle.dn_model.specs.declared.op.Op.{Op}
use Rattle.dn_model.specs.declared.op.Entry.{Entry}
use Rattle.dn_volume.specs.declared.flight.Flight.{Flight}
use Rattle.dn_volume.specs.declared.volume.Parts.{Parts}
use Rattle.dn_volume.specs.declared.volume.Volume.{Volume}
use Rattle.dn_volume.specs.Accounts.{KeepsAlone}
use Rattle.dn_volume.specs.Agrees.{IsVolume}
use Rattle.dn_volume.specs.Parties.{Flies}
use Rattle.dn_volume.specs.Resting.{AllLanded}
use Rattle.dn_volume.specs.Sound.{Sound, is_sound, was_sound, IsSound, StoppedIn, WasLeft, IsLater, AreLater, AreShort as ShortSince}
use Rattle.dn_volume.proofs.Resting.{at_rest, free_is}
use Rattle.dn_core.specs.Rest.{Drained}
use Rattle.dn_core.proofs.Rested.{settled}
use Rattle.job_runs.specs.declared.plan.Order.{Order}
use Rattle.job_runs.specs.Turns.{script_of, entries_of}
use Rattle.job_runs.specs.Scripts.{ops_of, IsFront, IsScripted, Rises, Suits}
use Rattle.job_runs.specs.Playing.{FlyNext, PlaysSo, PlaysWhole}
use Rattle.denova_runs.specs.Runs.{WasLeftIn, others_in, AreShort, LeftBy, RanWhole, HasRun, HasRunPart}
use Rattle.denova_runs.specs.Ran.{TellsOf}
use Rattle.denova_runs.specs.Opened.{base_at}
use Rattle.job_runs.proofs.Fronts.{next_op_is, plays_front, played_scripted}
use Rattle.denova_runs.proofs.Needing.{others_need}

-- an entry further on is one, and so is that of its client
in_drop : (k : ℕ) (xs : List Entry) (x : Entry) → Contains (drop k xs) x → Contains xs x
in_drop zero xs x has = has
in_drop (suc k) [] x has = has
in_drop (suc k) (y ∷ xs) x has = later y x xs (in_drop k xs x has)

apart : false ≡ true → ⊥
apart e = cc

-- behind an entry more
own_more : (who : ℕ) (y : Entry) (rest : List Entry) (x : Entry) → x.who ≡ who → (y ≡ x) ⊎ Contains rest x
    → Contains (if y.who == who then y ∷ rest else rest) x
own_more who y rest x is has = by (y.who == who) refl
  where
    by : (b : Bool) → (y.who == who) ≡ b → Contains (if b then y ∷ rest else rest) x
    by true test = ⊎_elim (λ (same : y ≡ x). subst (Contains (y ∷ rest)) same (here y rest)) (λ behind. later y x rest behind) has
    by false test = ⊎_elim
        (λ (same : y ≡ x). absurd (apart (sym test ∙ eq-eqb y.who who (ap (λ (e : Entry). e.who) same ∙ is))))
        (λ behind. behind) has

own_entry : (who : ℕ) (xs : List Entry) (x : Entry) → x.who ≡ who → Contains xs x → Contains (entries_of who xs) x
own_entry who [] x is has = has
own_entry who (y ∷ xs) x is has = own_more who y (entries_of who xs) x is
    (⊎_elim (λ same. inl same) (λ rest. inr (own_entry who xs x is rest)) (cons_cases y x xs has))

op_listed : (xs : List Entry) (x : Entry) → Contains xs x → Contains (ops_of xs) x.op
op_listed [] x has = absurd (none_listed x has)
op_listed (y ∷ xs) x has = ⊎_elim
    (λ (same : y ≡ x). subst (λ (e : Entry). Contains (ops_of (y ∷ xs)) e.op) same (here y.op (ops_of xs)))
    (λ rest. later y.op x.op (ops_of xs) (op_listed xs x rest)) (cons_cases y x xs has)

module _ (scripts : List (ℕ × List Op)) (b : Parts) (front : IsFront scripts b.history.items) (next : FlyNext scripts b) where
  -- what is known of a client further on is of its script
  later_listed : (k q : ℕ) (op : Op) → IsLater b k q op → Contains (script_of scripts q) op
  later_listed k q op is = ⊎_elim
      (λ (one : (entry : Entry) × Contains (drop k b.history.items) entry × (entry.who ≡ q) × (entry.op ≡ op)).
      let f = front.each q in
      let own = own_entry q b.history.items one.0 one.2 (in_drop k b.history.items one.0 one.1) in
      subst (λ (o : Op). Contains (script_of scripts q) o) one.3
      (subst (λ (ops : List Op). Contains ops one.0.op) (sym f.1)
      (Contains-append_left (ops_of (entries_of q b.history.items)) f.0 one.0.op (op_listed (entries_of q b.history.items) one.0 own))))
      (λ (one : (f : Flight) × Flies b q f × (f.op ≡ op)).
      subst (λ (o : Op). Contains (script_of scripts q) o) one.2
      (listed (script_of scripts q) (length (entries_of q b.history.items)) one.0.op (next.next q one.0 one.1)))
      is.why

  -- so no want of room is less, where all of the other clients' scripts are looked at
  still_short : (d : Disk) (k who : ℕ) (shorts : List (List Op)) (op : Op) (need free : ℕ) → Rises 0 scripts → AreLater b k who shorts
      → IsShortOfSpace d shorts op need free → IsShortOfSpace d (others_in scripts who) op need free
  still_short d k who shorts op need free rises are short =
      let more = others_need d who 0 shorts scripts short.x rises
      (λ i q ops o is at has.
      let told = (are.script i ops at o).0 has in
      let same : i + 1 ≡ q = omega (arith, is) in (
        subst (λ (n : ℕ). n ≢ who) same told.0,
        subst (λ (n : ℕ). Contains (script_of scripts n) o) same (later_listed k (i + 1) o told.1),
      )) short.others in
      let least = more.2 in
      record {
        is_need = short.is_need;
        some = short.some;
        lacks = short.lacks;
        x = more.0;
        others = more.1;
        h = short.h;
        half = short.half;
        few = λ pages apart free'. let most = short.few pages apart free' in omega (arith, least, most);
      }

-- all of the scripts is a front of them
pub scripted_front : (scripts : List (ℕ × List Op)) (history : List Entry) → IsScripted scripts history → IsFront scripts history
scripted_front scripts history scripted = record {
  each = λ who. ([], sym (scripted.each who) ∙ sym (append-nil (ops_of (entries_of who history))));
}

clash : (x : Bool) → x ≡ false → x ≡ true → ⊥
clash x low high = cc

module _ (print : Print) (scripts : List (ℕ × List Op)) (rises : Rises 0 scripts) (d : Disk) (s : State) (disk : Disk)
    (same : IsSameFiles (files disk) (files d)) where
  files_are : files disk ≡ files d
  files_are = same_files (files disk) (files d) same

  from_opening : (history : List Entry) (f : Files) → Legal (files disk) history f → Legal (files d) history f
  from_opening history f legal = subst (λ (g : Files). Legal g history f) files_are legal

  course_of : (t : State) (history : List Entry) (flying : Option Op) → Course print (files disk) (moment s.past) history flying t
      → Course print (files d) (moment s.past) history flying t
  course_of t history flying course = subst (λ (g : Files). Course print g (moment s.past) history flying t) files_are course

  left_in : (t : State) (e : Disk) → WasLeft (base_at s disk) t e → WasLeftIn s t e
  left_in t e was = record { m = was.m; c = was.c; since = was.since; left = was.left; stands_for = was.stands_for }

  short_in : (t : State) (b : Parts) → IsFront scripts b.history.items → FlyNext scripts b
      → ((p : Past) → t.past ≡ Some p → ShortSince (base_at s disk) b t) → AreShort scripts b.history.items s t
  short_in t b front next short p told = record {
    space = λ k needed free entry at is.
        let one = (short p told).space k needed free entry at is in
        (one.0, left_in t one.0 one.2, still_short scripts b front next one.0 k entry.who one.1 entry.op needed free rises one.3 one.4);
    inode = λ k entry at is. let one = (short p told).inode k entry at is in (one.0, left_in t one.0 one.1, one.2);
  }

  module _ {D F : Type 0} (state : D → State) (v : Volume D F) where
    abbrev t : State
    t = state v.device

    abbrev told : List Entry
    told = v.parts.history.items

    -- a front of each script was run
    pub run_part : (tells : List Entry → Type 0) → Sound state print (base_at s disk) v → IsFront scripts told → FlyNext scripts v.parts
        → tells told → HasRunPart print scripts d s t tells
    run_part tells (is_sound e volume sound) front next tell = record {
      history = told;
      front = front;
      end_files = files e;
      legal = from_opening told (files e) sound.legal;
      short = short_in t v.parts front next sound.short;
      flying = None;
      next = inl refl;
      course = course_of t told None sound.course.course;
      tells = tell;
    }
    run_part tells (was_sound stopped was) front next tell = ⊎_elim in_none in_one was.course
      where
        in_none : Course print (files disk) (moment s.past) told None t → HasRunPart print scripts d s t tells
        in_none course = record {
          history = told;
          front = front;
          end_files = was.files_then;
          legal = from_opening told was.files_then was.legal;
          short = short_in t v.parts front next was.short;
          flying = None;
          next = inl refl;
          course = course_of t told None course;
          tells = tell;
        }

        in_one : StoppedIn print (base_at s disk) v.parts t → HasRunPart print scripts d s t tells
        in_one one = record {
          history = told;
          front = front;
          end_files = was.files_then;
          legal = from_opening told was.files_then was.legal;
          short = short_in t v.parts front next was.short;
          flying = Some one.flight.op;
          next = inr (
            was.rose,
            one.flight.op,
            refl,
            next_op_is scripts told one.who one.flight.op front (next.next one.who one.flight one.flies),
          );
          course = course_of t told (Some one.flight.op) one.course;
          tells = tell;
        }

    -- no operation is in flight
    none_next : AllLanded v.parts → FlyNext scripts v.parts
    none_next landed = record { next = λ who f flies. absurd (landed who f flies) }

    -- all is done
    module _ (alone : KeepsAlone d disk) where
      left_by : (e : Disk) → IsVolume e v.parts t → IsSound print (base_at s disk) e v.parts t → LeftBy print d told e
      left_by e volume sound = record {
        why = λ ino idx m place left. ⊎_elim
            (λ (was : WasAlone (base_at s disk) ino idx m.block).
            let old = alone ino idx was.mapping was.place was.alone in
            inl (old.mapping, old.place, old.alone, old.page_is ∙ was.page_is))
            (λ twin. inr (
              twin.0,
              record {
                k = twin.1.k;
                some = twin.1.some;
                legal = from_opening (take twin.1.k told) twin.0 twin.1.legal;
              },
              twin.2,
            ))
            (sound.alone ino idx m place left);
      }

      abbrev sound_whole : (e : Disk) → IsVolume e v.parts t → IsSound print (base_at s disk) e v.parts t → IsScripted scripts told
          → AllLanded v.parts
          → Drained state print v
          → RanWhole print scripts d s t (TellsOf state v)
      sound_whole e volume sound scripted landed drained = record {
        history = told;
        scripted = scripted;
        end_files = files e;
        legal = from_opening told (files e) sound.legal;
        short = short_in t v.parts (scripted_front scripts told scripted) (none_next landed) sound.short;
        after = e;
        at_rest = at_rest e v.parts t volume landed drained.rests.daemon.none_begun drained.rests.reclaim.none_waits
            drained.rests.reclaim.none_begun;
        settled = settled e v.parts t volume landed drained.rests print sound.own;
        same = λ name. refl;
        left_by = left_by e volume sound;
        course = course_of t told None sound.course.course;
        free = length v.parts.free.free;
        has_free = (
          v.parts.free.free,
          (λ page. let is = free_is e v.parts t volume landed drained.rests.daemon.none_begun drained.rests.reclaim.none_waits
              drained.rests.reclaim.none_begun page in (is.0, is.1)),
          (λ i j x lt il. let less = AllPairs-from_increasing v.parts.free.free volume.space.in_order.rising i j x lt il in
              λ equal. omega (arith, less, equal)),
          refl,
        );
        tells = record { history_is = refl; volume = volume; free_is = refl };
      }

      -- with what the disk that is left has to promise
      pub ran_whole : (P : Disk → Type 0) → ((e : Disk) → IsVolume e v.parts t → IsSound print (base_at s disk) e v.parts t → P e)
          → Sound state print (base_at s disk) v → IsScripted scripts told → AllLanded v.parts → Drained state print v
          → RanWhole print scripts d s t (λ h after free. P after × TellsOf state v h after free)
      ran_whole P says (is_sound e volume sound) scripted landed drained =
          let run = sound_whole e volume sound scripted landed drained in
          record {
            history = run.history;
            scripted = run.scripted;
            end_files = run.end_files;
            legal = run.legal;
            short = run.short;
            after = run.after;
            at_rest = run.at_rest;
            settled = run.settled;
            same = run.same;
            left_by = run.left_by;
            course = run.course;
            free = run.free;
            has_free = run.has_free;
            tells = (says e volume sound, run.tells);
          }
      ran_whole P says (was_sound stopped was) scripted landed drained = absurd (clash v.parts.stopped drained.running stopped.stopped)

      pub run_whole : (order : Order) (turns : List ℕ) → Suits order scripts → (u : Volume D F) → Sound state print (base_at s disk) v
          → PlaysWhole order scripts turns (base_at s disk) u.parts
          → told ≡ u.parts.history.items → AllLanded v.parts → Drained state print v
          → HasRun print order scripts turns d s t (TellsOf state v)
      run_whole order turns suits u (is_sound e volume sound) whole more landed drained = record {
        whole = sound_whole e volume sound
            (subst (IsScripted scripts) (whole.entries ∙ sym more)
            (played_scripted order scripts turns (files disk) whole.moves whole.end suits whole.played))
            landed drained;
        moves = whole.moves;
        end = whole.end;
        opening = files disk;
        is_opening = same;
        played = whole.played;
        told = whole.entries ∙ sym more;
      }
      run_whole order turns suits u (was_sound stopped was) whole more landed drained =
          absurd (clash v.parts.stopped drained.running stopped.stopped)

    module _ (order : Order) (turns : List ℕ) where
      pub so_part : (tells : List Entry → Type 0) → Sound state print (base_at s disk) v
          → PlaysSo order scripts turns (base_at s disk) v.parts → tells told → HasRunPart print scripts d s t tells
      so_part tells sound so tell = run_part tells sound
          (subst (IsFront scripts) so.entries (plays_front order scripts turns (files disk) so.moves so.so_far so.plays)) so.flying tell

      -- all was played before, and what is drained since isn't finished
      pub whole_part : (u : Volume D F) (tells : List Entry → Type 0) → Sound state print (base_at s disk) v
          → PlaysWhole order scripts turns (base_at s disk) u.parts → told ≡ u.parts.history.items → AllLanded v.parts → tells told
          → HasRunPart print scripts d s t tells
      whole_part u tells sound whole more landed tell = run_part tells sound
          (subst (IsFront scripts) (whole.entries ∙ sym more)
          (plays_front order scripts turns (files disk) whole.moves whole.end whole.played.plays))
          (none_next landed) tell
