use Rattle.explain.proofs.SearchedBytes.{search-start}
use Rattle.explain.proofs.search.RowSearch.new.Goals as goal

pub returns : goal.returns
returns c = λ kind wanted some. search-start kind wanted _ c.new-2.ensures c.in_ok-rows.ensures some
