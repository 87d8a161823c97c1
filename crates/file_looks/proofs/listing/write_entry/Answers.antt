use Rattle.std.proofs.Common.{◌++◌, List, ℕ, ◌∙◌, ap}
use Rattle.data_begins.proofs.LiveFiles.{named_file}
use Rattle.file_looks.proofs.Listed.{on_ok_map, leads, line_said}
use Rattle.file_looks.proofs.listing.write_entry.Goals as goal

pub digest_of-requires-clause-file : goal.digest_of-requires-clause-file
digest_of-requires-clause-file g c = λ d volume.
    let b = c.args.v.now.parts in
    let s = g.D.Pm.state c.args.v.now.device in
    named_file d b s volume c.args.name.now c.args.ino (leads d b s volume c.args.name.now c.args.ino c.requires.leads)

pub size_of-requires-clause-file : goal.size_of-requires-clause-file
size_of-requires-clause-file g c = λ d volume.
    let b = c.args.v.now.parts in
    let s = g.D.Pm.state c.args.v.now.device in
    named_file d b s volume c.args.name.now c.args.ino (leads d b s volume c.args.name.now c.args.ino c.requires.leads)

pub returns : goal.returns
returns g c = on_ok_map c.write_digest.result _ _ (λ said d volume.
    said ∙ ap (λ (t : List ℕ). c.args.text.now.items ++ t)
    (line_said d c.args.v.now.parts (g.D.Pm.state c.args.v.now.device) volume c.args.name.now c.args.ino c.requires.leads c.size_of.result
    c.in_ok-digest.digest c.bytes.result.now (c.size_of.ensures.size d volume) (c.in_ok-digest.ensures d volume) c.bytes.ensures.bytes))
    c.write_digest.ensures
