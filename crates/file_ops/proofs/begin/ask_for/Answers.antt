use Rattle.std.proofs.Common.{◌<◌, length, ℕ, refl, sym, ◌∙◌, ap, subst}
use Rattle.std.specs.Prelude.{slice_index}
use Rattle.dn_model.specs.History.{touched}
use Rattle.dn_volume.proofs.Tables.{running_disk}
use Rattle.data_begins.proofs.LiveFiles.{tail_within, tail_read, log_paged}
use Rattle.file_ops.proofs.WriteAsks.{needs_pages}
use Rattle.file_ops.proofs.begin.ask_for.Goals as goal

pub load-tail-requires : goal.load-tail-requires
load-tail-requires g c =
    let found = running_disk g.D.Pm.state c.args.v.now c.requires.running c.requires.agrees in
    subst (λ (a : ℕ). a < length (g.D.Pm.state c.args.v.now.device).now) (sym c.inode_word.ensures)
    (tail_within found.0 c.args.v.now.parts (g.D.Pm.state c.args.v.now.device) found.1 c.args.ino (c.requires.file found.0 found.1))

pub returns : goal.returns
returns g c = λ d volume.
    let s = g.D.Pm.state c.args.v.now.device in
    let file = c.requires.file d volume in
    let room_is = c.room_of.ensures.room d.geometry (d.inode c.args.ino).log (log_paged d c.args.v.now.parts s volume c.args.ino file)
    (c.load-tail.ensures ∙ ap (slice_index s.now) c.inode_word.ensures ∙ tail_read d c.args.v.now.parts s volume c.args.ino file) in
    record {
      ino_is = refl;
      needs = c.pages_needed.ensures ∙ needs_pages (d.inode c.args.ino).log c.places_of-places.result
          (touched c.args.at c.args.count) c.room_of.result
          c.places_of-places.ensures room_is;
      lost = refl;
      places = c.places_of-places.ensures;
    }
