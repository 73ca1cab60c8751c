use Rattle.coefficient_cache.proofs.Apart.{loses-the-last}
use Rattle.coefficient_cache.proofs.laws.other_series_lose_the_last.Goals as goal

pub returns : goal.returns
returns _ capacity pairs series other needed apart = loses-the-last series other apart capacity pairs needed
