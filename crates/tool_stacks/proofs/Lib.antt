mod Indexes
