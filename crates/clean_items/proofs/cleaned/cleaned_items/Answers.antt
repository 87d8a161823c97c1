use Rattle.clean_items.proofs.PartsLoop.{names_answer, file_answer}
use Rattle.clean_items.proofs.cleaned.cleaned_items.Goals as goal

pub returns-then-ino-eq0 : goal.returns-then-ino-eq0
returns-then-ino-eq0 c = names_answer c.args.ino c.args.size c.args.places.now.map c.args.items.now c.cleaned_names.result c.if-ino-eq0.true
    c.cleaned_names.ensures

pub returns-else-ino-eq0 : goal.returns-else-ino-eq0
returns-else-ino-eq0 c = file_answer c.args.ino c.args.size c.args.places.now.map c.args.items.now c.cleaned_file.result c.if-ino-eq0.false
    c.cleaned_file.ensures
