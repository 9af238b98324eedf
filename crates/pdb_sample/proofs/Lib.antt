pub mod SampleFacts
