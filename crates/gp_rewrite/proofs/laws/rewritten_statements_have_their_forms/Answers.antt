use Rattle.gp_rewrite.proofs.FormLemmas as f
use Rattle.gp_rewrite.proofs.ReadLemmas as r
use Rattle.gp_rewrite.proofs.SoundLemmas as s
use Rattle.gp_rewrite.proofs.laws.rewritten_statements_have_their_forms.Goals as goal

pub returns-clause-statements : goal.returns-clause-statements
returns-clause-statements c catalogue t k table statement fits written t_counts k_counts of_step tables are sound =
    (f.rewritten_step catalogue of_step tables are t k table statement fits written, s.rewritten_sound tables sound t k t_counts k_counts catalogue statement fits)

pub returns-clause-queries : goal.returns-clause-queries
returns-clause-queries c catalogue select fits of_step tables are sound = (f.query_answers catalogue of_step tables are select fits, s.query_sound tables sound catalogue select fits)

pub returns-clause-reads : goal.returns-clause-reads
returns-clause-reads c columns t k statement earlier tables are = r.rewritten_reads earlier tables are columns t k statement

pub returns-clause-query_reads : goal.returns-clause-query_reads
returns-clause-query_reads c select earlier tables are = r.query_reads earlier tables are select
