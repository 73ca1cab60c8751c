-- What the errors of rows are for a chart, and its samples as those of a list of sums.
use Rattle.derived_chart.specs.declared.derived_error.DerivedError.{DerivedError}
use Rattle.derived_chart.specs.declared.derived_error.DerivedError.TheVariants as derived
use Rattle.om3_coeff.specs.declared.errors.NodeError.{NodeError}
use Rattle.om3_coeff.specs.declared.errors.NodeError.TheVariants as node
use Rattle.series_pair.specs.declared.sum_error.SumError.{SumError}
use Rattle.series_pair.specs.declared.sum_error.SumError.TheVariants.{TooLarge, DiskFault, Damaged, NoMemory}

-- what an error of nodes over pages is for a chart
abbrev pub node_error : NodeError → SumError
node_error node.DiskFault = DiskFault
node_error (node.Damaged page) = Damaged page
node_error (node.Missing key) = NoMemory
node_error (node.BadCoefficient key) = NoMemory

-- and an error of rows
abbrev pub error_of : DerivedError → SumError
error_of (derived.TooLarge time) = TooLarge time
error_of (derived.Node error) = node_error error
error_of derived.NoMemory = NoMemory
