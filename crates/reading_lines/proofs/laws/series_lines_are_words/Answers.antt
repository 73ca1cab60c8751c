use Rattle.reading_lines.proofs.Words.{row_words, one_series}
use Rattle.reading_lines.proofs.laws.series_lines_are_words.Goals as goal

pub returns-clause-words : goal.returns-clause-words
returns-clause-words c = λ name axis scale told. row_words name axis scale told

pub returns-clause-one_series : goal.returns-clause-one_series
returns-clause-one_series c = λ name other axis later scale places told known same.
    one_series name other axis later scale places told known same
