use Rattle.law_write.proofs.Unread.{read_in_data}
use Rattle.law_write.proofs.data_pages.read_pages_are_data.Goals as goal

pub returns : goal.returns
returns c = read_in_data
