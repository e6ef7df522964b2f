-- Of the laws `annotations_commute` and `annotations_change_no_reply` (gp_machine): rows with other annotations, by a map that keeps one, products and tokens:
-- a homomorphism, as of semirings in Green, Karvounarakis and Tannen (2007).
use Rattle.std.specs.Prelude.{◌≡◌, map}
use Rattle.gp_base.specs.declared.token.Token.{Token}
use Rattle.gp_base.specs.Annotated.{Annotations, Annotated, Database}
use Rattle.gp_algebra.specs.Answers.{Element}

pub record IsHomomorphism {M N : Type 0} (source : Annotations M) (target : Annotations N) (h : M → N) : Type 0 where
  pub one : h source.one ≡ target.one
  pub times : (a b : M) → h (source.times a b) ≡ target.times (h a) (h b)
  pub token : (token : Token) → h (source.token token) ≡ target.token token

abbrev pub reannotated : {M N : Type 0} → (M → N) → Annotated M → Annotated N
reannotated h row = record { identity = row.identity; cells = row.cells; mark = row.mark; annotation = h row.annotation }

abbrev pub element_reannotated : {M N : Type 0} → (M → N) → Element M → Element N
element_reannotated h element = record { branch = element.branch; sources = element.sources; cells = element.cells; annotation = h element.annotation }

abbrev pub database_reannotated : {M N : Type 0} → (M → N) → Database M → Database N
database_reannotated h db table = map (reannotated h) (db table)

-- no annotation
abbrev pub forgotten : {M : Type 0} → M → Unit {0}
forgotten annotation = tt
