-- What an answer says: the number of a refusal, or none, and its values.
use Rattle.std.specs.Prelude.{ℕ, Bool, true, false, Some, None, Ok, Err, Option}
use Rattle.fault.specs.declared.Fault.{Fault}
use Rattle.fault.specs.Faults.{number_of, place_of}
use Rattle.map_model.specs.declared.Answer.{Answer}
use Rattle.map_model.specs.declared.Answer.TheVariants.{NodeAdded, EdgeAdded, NodeRemoved, EdgeRemoved}

-- the number and the place of a refusal, the key, the weight and the truth that an answer gives
pub record Said (N E : Type 0) : Type 0 where
  pub number : Option ℕ
  pub place : Option ℕ
  pub key : Option N
  pub weight : Option E
  pub there : Option Bool

abbrev pub refused : {N E : Type 0} → Fault → Said N E
refused f = record { number = Some (number_of f); place = Some (place_of f); key = None; weight = None; there = None }

abbrev pub said : {N E : Type 0} → Answer N E → Said N E
said (NodeAdded (Ok n)) = record { number = None; place = None; key = Some n; weight = None; there = None }
said (NodeAdded (Err f)) = refused f
said (EdgeAdded (Ok old)) = record { number = None; place = None; key = None; weight = old; there = None }
said (EdgeAdded (Err f)) = refused f
said (NodeRemoved was) = record { number = None; place = None; key = None; weight = None; there = Some was }
said (EdgeRemoved old) = record { number = None; place = None; key = None; weight = old; there = None }

abbrev pub number_of_answer : {N E : Type 0} → Answer N E → Option ℕ
number_of_answer a = (said a).number

abbrev pub absent : {X : Type 0} → Option X → Bool
absent None = true
absent (Some x) = false

-- a call is granted where its answer has no number
abbrev pub granted : {N E : Type 0} → Answer N E → Bool
granted a = absent (number_of_answer a)
