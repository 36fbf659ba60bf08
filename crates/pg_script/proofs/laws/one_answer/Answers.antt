use Rattle.pg_script.proofs.One.Script.{script_once}
use Rattle.pg_script.proofs.One.Fault.{script_right, fault_once}
use Rattle.pg_script.proofs.laws.one_answer.Goals as goal

pub returns-clause-one_script : goal.returns-clause-one_script
returns-clause-one_script c = script_once

pub returns-clause-no_fault : goal.returns-clause-no_fault
returns-clause-no_fault c = script_right

pub returns-clause-one_fault : goal.returns-clause-one_fault
returns-clause-one_fault c = fault_once
