use Rattle.std.proofs.Common.{string_bytes, ◌∙◌, sym}
use Rattle.std.proofs.lemmas.List.Folds.{list_all-map}
use Rattle.denova_words.specs.Words.{is_plain}
use Rattle.denova_words.proofs.words.all_plain.Goals as goal

pub returns : goal.returns
returns c = c.each_is_plain.ensures ∙ sym (list_all-map is_plain string_bytes c.args.words.now)
