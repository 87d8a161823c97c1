use Rattle.law_share.proofs.Shared.{frees_page}
use Rattle.law_share.proofs.sharing_frees_page.Goals as goal

pub returns : goal.returns
returns c = frees_page
