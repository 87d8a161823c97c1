use Rattle.log_replace.proofs.BodyOfPages.{pages_make_body, no_page_stands, page_stores}
use Rattle.log_replace.proofs.laws.pages_make_the_body.Goals as goal

pub returns-clause-whole : goal.returns-clause-whole
returns-clause-whole c = pages_make_body

pub returns-clause-none : goal.returns-clause-none
returns-clause-none c = no_page_stands

pub returns-clause-still : goal.returns-clause-still
returns-clause-still c = page_stores
