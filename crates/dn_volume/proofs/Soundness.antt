-- What each kind of event does keeps a volume sound.
use Rattle.std.proofs.Common.{◌≡◌, ◌⊎◌, inl, inr, ℕ, Bool, true, false, List, [], ◌∷◌, ◌++◌, refl, sym, ◌∙◌, subst, arith, Option, Some, None}
use Rattle.std.proofs.lemmas.List.{append-nil}
use Rattle.pm_device.specs.Past.{Past}
use Rattle.pm_device.specs.State.{State}
use Rattle.pm_device.specs.Settled.{Extends, LeavesNow}
use Rattle.dn_model.specs.Disk.{Disk}
use Rattle.dn_model.specs.Files.{files, IsSameFiles}
use Rattle.dn_model.specs.Own.{Print}
use Rattle.dn_model.specs.History.{Step, done, Legal}
use Rattle.dn_model.specs.Course.{Base, Course, base_files}
use Rattle.dn_model.specs.OnCourse.{IsImageOf, IsOnCourse}
use Rattle.dn_model.specs.declared.op.Op.{Op}
use Rattle.dn_model.specs.declared.op.Entry.{Entry}
use Rattle.dn_model.specs.declared.op.Reply.{Reply}
use Rattle.dn_model.specs.declared.op.Reply.TheVariants.{Done, Refused}
use Rattle.dn_model.specs.declared.op.Refusal.{Refusal}
use Rattle.law_course.proofs.Course.{legal-told}
use Rattle.dn_volume.specs.declared.volume.Parts.{Parts}
use Rattle.dn_volume.specs.declared.volume.Volume.{Volume}
use Rattle.dn_volume.specs.Parties.{KeepsOps}
use Rattle.dn_volume.specs.Agrees.{IsVolume}
use Rattle.dn_volume.specs.Events.{Moves, Breaks}
use Rattle.dn_volume.specs.Sound.{AreShort, IsSound, StoppedIn, Sound, is_sound, was_sound}
use Rattle.dn_volume.specs.Laws.{MovesStaySound, AnswersStaySound, BreaksStaySound}
use Rattle.dn_volume.proofs.LeftLater.{told_before}
use Rattle.dn_volume.proofs.Courses.{stay, go_on, stop_quiet, stop_in}
use Rattle.dn_volume.proofs.Shorts.{stays_short, goes_on_later, answered_later, more_short}
use Rattle.dn_volume.proofs.SoundStays.{traced_on, alone_on, pages_on, alone_since, pages_since, rose_since, image_now}

-- a volume that isn't stopped and is sound has a disk
pub sound_disk : {D F : Type 0} (state : D → State) (print : Print) (base : Base) (v : Volume D F) → v.parts.stopped ≡ false
    → Sound state print base v
    → (d : Disk) × IsVolume d v.parts (state v.device) × IsSound print base d v.parts (state v.device)
sound_disk state print base v running (is_sound d volume sound) = (d, volume, sound)
sound_disk state print base v running (was_sound stopped was) = absurd (apart v.parts.stopped running stopped.stopped)
  where
    apart : (b : Bool) → b ≡ false → b ≡ true → ⊥
    apart b low high = cc

-- where the past is told afterwards, wants were accounted for before
pub told_short : (base : Base) (b b' : Parts) (s t : State) → Extends s.past t.past → ((p : Past) → s.past ≡ Some p → AreShort base b s)
    → (AreShort base b s → AreShort base b' t) → (p : Past) → t.past ≡ Some p → AreShort base b' t
told_short base b b' s t on short gives p told = let before = told_before s.past t.past on p told in gives (short before.0 before.1)

module _ {D F : Type 0} (state : D → State) (print : Print) (base : Base) (who : ℕ) (v v' : Volume D F) (d e : Disk)
    (sound : IsSound print base d v.parts (state v.device)) (moves : Moves state print who v v' d e) where
  -- with more of history
  sound_then : (more : List Entry) → v'.parts.history.items ≡ v.parts.history.items ++ more
      → IsOnCourse print (base_files base) base.start (v.parts.history.items ++ more) (files e) (state v'.device)
      → ((p : Past) → (state v'.device).past ≡ Some p → AreShort base v'.parts (state v'.device)) → IsSound print base e v'.parts (state v'.device)
  sound_then more same on short = record {
    own = moves.own sound.own;
    legal = subst (λ (h : List Entry). Legal (base_files base) h (files e)) (sym same)
        (legal-told print (base_files base) base.start (v.parts.history.items ++ more) (files e) (state v'.device) on);
    course = subst (λ (h : List Entry). IsOnCourse print (base_files base) base.start h (files e) (state v'.device)) (sym same) on;
    traced = traced_on base d e v.parts v'.parts moves.traces sound.traced;
    short = short;
    alone = alone_since print base (v.parts.history.items ++ more) v'.parts.history.items e same
        (alone_on print base v.parts.history.items more d e sound.legal (moves.accounts sound.own) sound.alone sound.row_pages);
    row_pages = pages_since base (v.parts.history.items ++ more) v'.parts.history.items e same
        (pages_on print base v.parts.history.items more d e sound.legal (moves.accounts sound.own) sound.row_pages);
    begun = on.begun;
    faults = omega (arith, sound.faults, moves.faults);
  }

  pub moved_on : IsSameFiles (files e) (files d) → KeepsOps v.parts v'.parts → v'.parts.history.items ≡ v.parts.history.items
      → IsSound print base e v'.parts (state v'.device)
  moved_on quiet ops same =
      sound_then [] (same ∙ sym (append-nil v.parts.history.items))
      (subst (λ (h : List Entry). IsOnCourse print (base_files base) base.start h (files e) (state v'.device))
      (sym (append-nil v.parts.history.items))
      (stay print base v.parts.history.items d e (state v.device) (state v'.device) sound.own sound.course moves.images quiet))
      (told_short base v.parts v'.parts (state v.device) (state v'.device) moves.images.extends sound.short
      (λ short. stays_short base v.parts v'.parts (state v.device) (state v'.device) moves.images.extends short same
      (λ k few. goes_on_later v.parts v'.parts k same ops)))

not_refused : (r : Reply) (why : Refusal) → r ≡ Done → r ≡ Refused why → ⊥
not_refused r why is other = let clash : Done ≡ Refused why = sym is ∙ other in cc clash

pub moves_stay_sound : {D F : Type 0} (state : D → State) → MovesStaySound D F state
moves_stay_sound state print base who v v' running sound moves =
    let was = sound_disk state print base v running sound in
    let m = moves was.0 was.1 in
    is_sound m.after m.moves.volume (moved_on state print base who v v' was.0 m.after was.2 m.moves m.quiet m.ops m.history)

pub answers_stay_sound : {D F : Type 0} (state : D → State) → AnswersStaySound D F state
answers_stay_sound state agree print base who op reply v v' running sound answers =
    let was = sound_disk state print base v running sound in
    let a = answers was.0 was.1 in
    let own = was.2.own in
    let step : Step (files was.0) a.entry.op a.entry.reply (files a.after) =
    subst (λ (o : Op). Step (files was.0) o a.entry.reply (files a.after)) (sym a.op_is)
    (subst (λ (r : Reply). Step (files was.0) op r (files a.after)) (sym a.reply_is) (done a.granted a.grants (a.files_after own))) in
    let now : LeavesNow (state v'.device) (IsImageOf print (files a.after)) = λ c left. image_now print a.after v'.parts (state v'.device)
    a.moves.volume.fast (a.moves.own own) (agree v'.device) c left in
    is_sound a.after a.moves.volume
    (sound_then state print base who v v' was.0 a.after was.2 a.moves (a.entry ∷ []) a.history
    (go_on print base v.parts.history.items was.0 a.after (state v.device) (state v'.device) own was.2.course a.moves.images a.entry step now)
    (told_short base v.parts v'.parts (state v.device) (state v'.device) a.moves.images.extends was.2.short
    (λ short. more_short base v.parts v'.parts (state v.device) (state v'.device) a.moves.images.extends short a.entry a.history
    (λ why is. not_refused a.entry.reply why (a.reply_is ∙ a.done) is)
    (λ k few. answered_later v.parts v'.parts k who a.entry few a.history a.who_is op a.op_is a.flew.flight a.flew.op_is a.flew.flies.client
    a.replaces))))

pub breaks_stay_sound : {D F : Type 0} (state : D → State) → BreaksStaySound D F state
breaks_stay_sound state print base who answers v v' running sound breaks =
    let was = sound_disk state print base v running sound in
    let d = was.0 in
    let b = breaks d was.1 in
    let s = was.2 in
    was_sound b.stopped (record {
      files_then = files d;
      legal = subst (λ (h : List Entry). Legal (base_files base) h (files d)) (sym b.history) s.legal;
      short = told_short base v.parts v'.parts (state v.device) (state v'.device) b.images.extends s.short
          (λ short. stays_short base v.parts v'.parts (state v.device) (state v'.device) b.images.extends short b.history
          (λ k few. goes_on_later v.parts v'.parts k b.history b.ops));
      rose = rose_since base.faults (state v.device).faults (state v'.device).faults s.faults b.rose;
      course = by_answer answers refl d b s;
    })
  where
    by_answer : (o : Option Op) → answers ≡ o → (d : Disk) → Breaks state print who answers v v' d → IsSound print base d v.parts (state v.device)
        → Course print (base_files base) base.start v'.parts.history.items None (state v'.device) ⊎ StoppedIn print base v'.parts (state v'.device)
    by_answer None is d b s =
        inl (subst (λ (h : List Entry). Course print (base_files base) base.start h None (state v'.device)) (sym b.history)
        (stop_quiet print base v.parts.history.items d b.after (state v.device) (state v'.device) s.own s.course b.images (b.quiet is)))
    by_answer (Some op) is d b s =
        let flying = b.answered op is in
        let went = b.answering op is s.own in
        inr (record {
          who = who;
          flight = flying.flight;
          flies = flying.flies;
          last = sym flying.left_is;
          course = subst (λ (o : Op). Course print (base_files base) base.start v'.parts.history.items (Some o) (state v'.device)) (sym flying.op_is)
              (subst (λ (h : List Entry). Course print (base_files base) base.start h (Some op) (state v'.device)) (sym b.history)
              (stop_in print base v.parts.history.items d b.after (state v.device) (state v'.device) s.own s.course b.images op went.0 went.1));
        })
