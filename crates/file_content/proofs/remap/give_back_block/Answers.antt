use Rattle.std.proofs.Common.{sym, subst}
use Rattle.std.specs.Prelude.{Option}
use Rattle.file_index.specs.declared.page_map.Mapping.{Mapping}
use Rattle.file_content.specs.Overwritten.{GivesBlock}
use Rattle.file_content.proofs.Freeing.{block_given}
use Rattle.file_content.proofs.remap.give_back_block.Goals as goal

pub returns-in-Some : goal.returns-in-Some
returns-in-Some c = subst (λ (o : Option Mapping). GivesBlock o c.args.free.now c.give_back.new.self) (sym c.in-Some.is)
    (block_given c.in-Some.m c.args.free.now c.give_back.new.self c.give_back.ensures.gives_back)
