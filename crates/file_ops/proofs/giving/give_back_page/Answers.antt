use Rattle.file_ops.proofs.GivenPages.{gives_one}
use Rattle.file_ops.proofs.giving.give_back_page.Goals as goal

pub returns-in-Some : goal.returns-in-Some
returns-in-Some c = gives_one c.args.page c.in-Some.p c.args.free.now c.give_back.new.self c.in-Some.is c.give_back.ensures.gives_back
    c.give_back.ensures.in_order
