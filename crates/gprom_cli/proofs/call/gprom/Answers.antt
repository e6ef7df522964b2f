use Rattle.std.proofs.Common.{refl, map}
use Rattle.std.specs.Prelude.{string_bytes}
use Rattle.gp_serial.specs.LeastCycles.{IsCycleOf}
use Rattle.gprom_cli.specs.Args.{command_of}
use Rattle.gprom_cli.specs.Call.{Call}
use Rattle.gprom_cli.specs.Promises.{Promises}
use Rattle.gprom_cli.proofs.PromisesLemmas.{promised}
use Rattle.gprom_cli.proofs.call.gprom.Goals as goal

pub returns : goal.returns
returns g c =
    let ends = c.execute.ensures in
    let scripts = c.scripts_have_well_formed_dumps.ensures in
    let histories = c.dumps_of_histories_are_known.ensures in
    let isolated = c.histories_are_isolated.ensures in
    let serial = c.serial_answers_are_true.ensures in
    let anomalies = c.anomaly_answers_are_true.ensures in
    let deltas = c.deltas_are_differences.ensures in
    let call : Call = record {
      command = command_of (map string_bytes c.args.args.now);
      events = ends.events;
      sink = g.K.Sink.state c.args.out.now;
      sink_after = g.K.Sink.state c.execute.new.out;
      status = c.execute.result;
    } in
    let promises : Promises call =
    promised
    (record {
      formed = scripts.formed;
      unchanged = scripts.unchanged;
      held = histories.held;
      checked = histories.checked;
      explained = c.programs_explain_their_questions.ensures;
      asked = c.queries_ask_their_questions.ensures;
      stored = c.row_versions_are_stored.ensures;
      reloaded = c.exported_sheets_load_again.ensures;
      programs = c.texts_are_read_again.ensures.unique;
      queries = c.texts_spell_one_query.ensures;
      compared = c.comparisons_answer_as_made_dumps.ensures;
      isolated = isolated.reached;
      lost = isolated.lost;
      remade = isolated.remade;
      serial = serial.serial;
      cycle = serial.cycle;
      changes = serial.changes;
      anomalies = anomalies.cycles;
      limited = anomalies.limited;
      answered = serial.answered;
      unstopped = c.statements_of_histories_do_not_stop.ensures;
      versions = c.intervals_agree_with_versions.ensures.bags;
      differences = λ rows others one two. record {
        bags = deltas.bags rows others;
        signs = deltas.signs rows others one two;
        order = deltas.order rows others one two;
      };
      shortest = λ is_before all other up some closes among.
          let is : IsCycleOf is_before all other = record { closes = closes; among = among } in
          (c.least_cycles_are_shortest.ensures is_before all up some).shortest other is;
      pairs = c.pair_cycles_are_first.ensures;
      none = anomalies.none;
      least = anomalies.least;
    })
    call ends.outcome in
    (call, refl, ends.grown, refl, refl, c.number.ensures, promises)
