-- A call of a function, as theorems over several calls speak of it: its arguments, which are as their types say (no call is made with
-- others), its answer and the arguments at exit, which keep its contract as Rattle reads it.
use Rattle.std.specs.Prelude.{ℕ, List}
use contract.Lifetimes.{Lfts}
use denote.Triple.Clauses.{AtExit}
use borrow.Fn.Kinds.{ParamKind, ResultKind, Out, Dens, GoodsP, res_t, ended_of}

pub record Call (n : ℕ) (ps : List (ParamKind n)) (r : ResultKind n) (Post : Out n ps r) : Type 0 where
  pub κs : Lfts n
  pub args : Dens κs ps
  pub answer : (res_t r κs).Denot
  pub exit : AtExit (ended_of n ps r) κs
  pub typed : GoodsP κs ps args
  pub kept : Post κs args answer exit
