-- How the answering of lines by spellings ends a serving.
use Rattle.std.specs.Prelude.{Result, Ok, Err}
use Rattle.chart_service.specs.declared.failure.AnswerEnd.{AnswerEnd}
use Rattle.chart_service.specs.declared.failure.AnswerEnd.TheVariants.{Serve, Reply}
use Rattle.std.specs.declared.alloc.AllocError.{AllocError}
use Rattle.chart_service.specs.declared.failure.ServeEnd.{ServeEnd}
use Rattle.chart_service.specs.declared.failure.ServeEnd.TheVariants.{NoMemory}

-- want of memory for a spelling ends it too
abbrev pub spelled_end : AnswerEnd AllocError → ServeEnd
spelled_end (Serve end) = end
spelled_end (Reply e) = NoMemory

abbrev pub serve_end : {T : Type 0} → Result T (AnswerEnd AllocError) → Result T ServeEnd
serve_end (Ok done) = Ok done
serve_end (Err end) = Err (spelled_end end)
