mod LogLemmas
